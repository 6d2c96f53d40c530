-- The objects of a map by one member and by the other fields.
use Rattle.std.proofs.Common.{◌≡◌, ℕ, List, [], false, Some, bytes_eq, codes, option_and_then, refl, sym, ap, ◌∙◌, true≢false}
use Rattle.std.specs.Prelude.{◌≢◌}
use Rattle.std.proofs.lemmas.Slice.Eq.{bytes_eq-Decides}
use Rattle.std.specs.Str.{IsUtf8}
use Rattle.json.specs.Json.{if_last, value}
use Rattle.json.specs.Lex.{tokens}
use Rattle.serde_json.specs.Data.{Members, object}
use Rattle.serde_json.specs.Read.{of_json}
use Rattle.dwc_map.specs.ByTokens.{AreSameBut, Tells}
use Rattle.dwc_map.specs.MapFile.{MapFile, MapFunction, MapModule, functions_of, map_in, map_in_bytes, map_module_of, map_with, module_in, modules_of}
use Rattle.dwc_map.specs.MapValues.{◌>>=◌, required}
use Rattle.dwc_map.proofs.MapKinds.{map_in_bytes_read}
use Rattle.dwc_map.proofs.TokenLists.{converted_some}

apart : (xs ys : List ℕ) → bytes_eq xs ys ≡ false → xs ≢ ys
apart xs ys differ same = true≢false (sym ((bytes_eq-Decides xs ys).1 same) ∙ differ)

module-same : (fs : List MapFunction) (ms ns : Members) → AreSameBut (codes "functions") ms ns → module_in fs ms ≡ module_in fs ns
module-same fs ms ns same = rw (same (codes "memory") (apart (codes "memory") (codes "functions") refl), same (codes "path") (apart (codes "path") (codes "functions") refl))

pub module-by : (fs : List MapFunction) (ms ns : Members) → AreSameBut (codes "functions") ms ns → required (codes "functions") functions_of ms ≡ Some fs → map_module_of (object ms) ≡ module_in fs ns
unfolding map_module_of
module-by fs ms ns same is = ap (λ o. o >>= λ functions. module_in functions ms) is ∙ module-same fs ms ns same

map-same : (ws : List MapModule) (ms ns : Members) → AreSameBut (codes "modules") ms ns → map_with ws ms ≡ map_with ws ns
map-same ws ms ns same = rw (same (codes "target") (apart (codes "target") (codes "modules") refl), same (codes "names") (apart (codes "names") (codes "modules") refl), same (codes "next_id") (apart (codes "next_id") (codes "modules") refl))

pub map-by : (ws : List MapModule) (ms ns : Members) → AreSameBut (codes "modules") ms ns → required (codes "modules") modules_of ms ≡ Some ws → map_in (object ms) ≡ map_with ws ns
unfolding map_in
map-by ws ms ns same is = ap (λ o. o >>= λ modules. map_with modules ms) is ∙ map-same ws ms ns same

-- A text whose tokens are those of a map is that map.
pub text-told : (bytes : List ℕ) (m : MapFile) → IsUtf8 bytes → Tells 127 map_in (tokens bytes) m [] → map_in_bytes bytes ≡ Some m
text-told bytes m utf8 t =
    let j = converted_some of_json (value 127 (tokens bytes)) t.found [] t.read in
    map_in_bytes_read bytes t.found utf8 (ap (λ o. option_and_then of_json (option_and_then (λ p. if_last p.0 p.1) o)) j.1 ∙ j.2) ∙ t.is
