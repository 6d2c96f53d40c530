-- The path of the unit for functions without debugging information, and the counter of names behind it.
use Rattle.std.proofs.Common.{◌≡◌, ℕ, ◌+◌, ◌-◌, ◌<◌, ◌^◌, List, [], ◌∷◌, ◌++◌, length, get_or, refl, ap, sym, ◌∙◌, subst, arith, Bool, true, false, Option, Some, None}
use Rattle.std.specs.Prelude.{◌==◌, codes, not, if◌then◌else◌, option_map, IfOk, IfSome, Result, Ok, Err}
use Rattle.std.specs.Fmt.{decimal}
use Rattle.std.specs.List.{list_any, suffix_len}
use Rattle.std.specs.Option.{option_or, unwrap_or}
use Rattle.std.proofs.lemmas.Fmt.{decimal_is_IsNumeral}
use Rattle.std.proofs.lemmas.Str.Parse.{digit_at}
use Rattle.std.proofs.lemmas.List.Elements.{All-append, All-drop, All-from_get_or, All-take}
use Rattle.dwc_base.specs.declared.records.OutputFor.{OutputFor}
use Rattle.dwc_base.specs.declared.translation.ModuleTranslation.{ModuleTranslation}
use Rattle.dwc_rules.specs.Carried.{Module}
use Rattle.dwc_native.specs.Compiled.{ToldModule}
use Rattle.dwc_base.specs.TranslationNames.{told_file}
use Rattle.dwc_carried.specs.UnitPaths.{cut_path, is_file_name, is_slash, numbered_path, path_name, unit_path, without_zero}
use Rattle.dwc_isa.specs.Registers.{Registers}
use Rattle.dwc_addr.specs.Compilations.{CompilationValue, IsCounted}
use Rattle.dwc_addr.specs.Numbers.{Compiled}
use Rattle.dwc_unit.specs.SpelledLines.{FitsName}
use Rattle.dwc_unit.specs.TextTables.{IsText}
use Rattle.dwc_carry.specs.declared.unit_path.UnitPath.{UnitPath}
use Rattle.dwc_carry.specs.Inputs.{counted_behind, modules_from, modules_of, names_of, told_from}
use Rattle.dwc_carry.specs.SimulatedUnits.{IsPathOf, counted_name}
use Rattle.dwc_carry.specs.UnitPathParts.{IsUnitPath}
use Rattle.dwc_carry.proofs.CompiledLaws.{counted-length, told-length}
use Rattle.dwc_carry.proofs.PlainNames.{plain_bytes}

abbrev IsSet : ℕ → Type 0
IsSet b = 0 < b

-- ---- no zero byte

given-plain : (o : Option (List ℕ)) → IfSome (without_zero o) IsText
given-plain None = tt
given-plain (Some text) = go (list_any (λ b. b == 0) text) refl
  where
    go : (a : Bool) → list_any (λ b. b == 0) text ≡ a → IfSome (if a then None else Some text) IsText
    go true is = tt
    go false is = plain_bytes text is

plain-decimal : (n : ℕ) → n < 2 ^ 64 → IsText (decimal n)
plain-decimal n small = All-from_get_or IsSet (decimal n) 0 (λ i less. omega (arith, digit_at (decimal n) i (decimal_is_IsNumeral n small).0.1 less))

pub path-plain : (next_id : ℕ) (m : Module) → next_id < 2 ^ 64 → IsText (unit_path next_id m)
path-plain next_id m small = go (without_zero m.file.path) (without_zero m.file.name) (given-plain m.file.path) (given-plain m.file.name)
  where
    go : (a b : Option (List ℕ)) → IfSome a IsText → IfSome b IsText → IsText (unwrap_or (option_or a (option_map (λ name. codes "/<wasm-module>/" ++ name) b)) (numbered_path next_id))
    go (Some path) b h k = h
    go None (Some name) h k = All-append IsSet (codes "/<wasm-module>/") name (plain_bytes (codes "/<wasm-module>/") refl) k
    go None None h k =
        All-append IsSet (codes "/<wasm-module>/<gen-") (decimal next_id ++ codes ">.wasm") (plain_bytes (codes "/<wasm-module>/<gen-") refl)
        (All-append IsSet (decimal next_id) (codes ">.wasm") (plain-decimal next_id small) (plain_bytes (codes ">.wasm") refl))

-- The name that a path ends with can be written, where it names a file.
pub name-fits : (path : List ℕ) → IsText path → is_file_name (path_name path) ≡ true → FitsName (path_name path)
name-fits path plain named = record {
  some = some (path_name path) named;
  plain = All-drop IsSet (length (cut_path path) - suffix_len (λ b. not (is_slash b)) (cut_path path)) (cut_path path) (All-take IsSet (length path - suffix_len is_slash path) path plain);
}
  where
    some : (name : List ℕ) → is_file_name name ≡ true → 0 < length name
    some [] h = absurd (cc)
    some (b ∷ bs) h = omega arith

-- ---- of a compilation

file-from : (output : OutputFor) (version : ℕ) (ts : List ModuleTranslation) (fss : List (List Compiled)) (told : List ToldModule) (t : ModuleTranslation) (m : Module) (ms : List Module) → t ≡ get_or ts 0 t → modules_from output version 0 ts fss told ≡ m ∷ ms → m.file ≡ told_file t
file-from output version [] fss told t m ms at h = absurd (cc)
file-from output version (x ∷ ts) [] told t m ms at h = absurd (cc)
file-from output version (x ∷ ts) (fs ∷ fss) [] t m ms at h = absurd (cc)
file-from output version (x ∷ ts) (fs ∷ fss) (y ∷ told) t m ms at h = sym (ap (λ (n : Module). n.file) (head h)) ∙ ap told_file (sym at)
  where
    head : Rattle.dwc_carry.specs.Inputs.module_view output version 0 x fs y ∷ modules_from output version (0 + length fs) ts fss told ≡ m ∷ ms → Rattle.dwc_carry.specs.Inputs.module_view output version 0 x fs y ≡ m
    head e = cc

-- the file of the first module is the first one
pub first-file : (registers : Registers) (c : CompilationValue) (t : ModuleTranslation) (m : Module) (ms : List Module) → t ≡ get_or c.translations 0 t → modules_of registers c ≡ m ∷ ms → m.file ≡ told_file t
first-file registers c t m ms at h = file-from c.tunables.output_for c.tunables.dwarf_version c.translations c.functions (told_from c.tunables.output_for registers (names_of c) 0 0 c.functions c.memory_offsets) t m ms at h

-- a list of modules that has a first one
pub record HasFirst (xs : List Module) : Type 0 where
  pub m : Module
  pub ms : List Module
  pub is : xs ≡ m ∷ ms

first-from : (output : OutputFor) (version : ℕ) (ts : List ModuleTranslation) (fss : List (List Compiled)) (told : List ToldModule) → length fss ≡ length ts → length told ≡ length ts → 0 < length ts → HasFirst (modules_from output version 0 ts fss told)
first-from output version [] fss told same counted some = absurd (omega (arith, some))
first-from output version (t ∷ ts) [] told same counted some = absurd (omega (arith, same))
first-from output version (t ∷ ts) (fs ∷ fss) [] same counted some = absurd (omega (arith, counted))
first-from output version (t ∷ ts) (fs ∷ fss) (x ∷ told) same counted some = record { m = Rattle.dwc_carry.specs.Inputs.module_view output version 0 t fs x; ms = modules_from output version (0 + length fs) ts fss told; is = refl }

-- There is a module where there is a translation.
pub has-first : (registers : Registers) (c : CompilationValue) → IsCounted c.translations c.functions c.memory_offsets → 0 < length c.translations → HasFirst (modules_of registers c)
has-first registers c counted some =
    let same = counted-length c.translations c.functions c.memory_offsets counted in
    first-from c.tunables.output_for c.tunables.dwarf_version c.translations c.functions (told_from c.tunables.output_for registers (names_of c) 0 0 c.functions c.memory_offsets) same
    (told-length c.tunables.output_for registers (names_of c) 0 0 c.functions c.memory_offsets (counted.offsets_given ∙ sym same) ∙ same) some

module _ (c : CompilationValue) (t : ModuleTranslation) (u : UnitPath) (at : t ≡ get_or c.translations 0 t) (of : IsUnitPath t c.next_id u) where
  -- It is the path of the unit.
  pub path-of : ((m : Module) → m.file ≡ told_file t → IsText u.path.items) → IsPathOf c u.path.items
  path-of plain = λ registers m ms is. let file = first-file registers c t m ms at is in (of.path m file, plain m file)

  -- The counter has risen where the path is generated, and else is as it was.
  pub counter-behind : (registers : Registers) → IsCounted c.translations c.functions c.memory_offsets → 0 < length c.translations → counted_name u.is_generated c ≡ counted_behind registers c
  counter-behind registers counted some =
      let first = has-first registers c counted some in
      let file = first-file registers c t first.m first.ms at first.is in
      ap (λ (b : Bool). counted_name b c) (of.is_generated first.m file)
      ∙ ap (λ (ms : List Module). record c { next_id = Rattle.dwc_carried.specs.UnitPaths.next_id_behind c.next_id ms }) (sym first.is)

-- What is given as the path of the unit of a module has no zero byte.
pub plain-given : {E : Type 0} (t : ModuleTranslation) (next_id : ℕ) (r : Result UnitPath E) → next_id < 2 ^ 64 → IfOk r (IsUnitPath t next_id) → (m : Module) → m.file ≡ told_file t → IfOk r (λ u. IsText u.path.items)
plain-given t next_id (Ok u) small h = λ m file. subst IsText (sym (h.path m file)) (path-plain next_id m small)
plain-given t next_id (Err e) small h = λ m file. tt
