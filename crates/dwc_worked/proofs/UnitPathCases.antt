-- Paths: with slashes at every place, with names that are empty or dots, and made ones; and the number of the next generated name.
use Rattle.std.proofs.Common.{◌≡◌, ℕ, List, [], ◌∷◌, map, Some, None, refl}
use Rattle.std.specs.Prelude.{codes, Option, if◌then◌else◌}
use Rattle.std.specs.Fmt.{digits}
use Rattle.dwc_rules.specs.Carried.{Module}
use Rattle.dwc_base.specs.ToldFiles.{bare_file}
use Rattle.dwc_carried.specs.UnitPaths.{path_name, path_directory, is_file_name, unit_path, next_id_behind, refused_path}
use Rattle.dwc_worked.proofs.Variants.{module_with}

-- ---- names and directories

-- the directory and the name of a path, none where the name names no file
abbrev parts_of : List ℕ → Option (List ℕ × List ℕ)
parts_of path = if is_file_name (path_name path) then Some (path_directory path, path_name path) else None

usual : map parts_of (codes "/m/g.wasm" ∷ codes "g.wasm" ∷ codes "/g" ∷ codes "m/g" ∷ codes "/a/b" ∷ [])
    ≡ Some (codes "/m", codes "g.wasm") ∷ Some ([], codes "g.wasm") ∷ Some (codes "/", codes "g") ∷ Some (codes "m", codes "g") ∷ Some (codes "/a", codes "b") ∷ []
usual = refl

-- several slashes, at the end and before the name
slashes : map parts_of (codes "/m/g///" ∷ codes "/m//g" ∷ codes "//g" ∷ codes "a///b//" ∷ codes "//a/a" ∷ codes "g/" ∷ codes "///g/" ∷ codes "/<wasm-module>/" ∷ [])
    ≡ Some (codes "/m", codes "g") ∷ Some (codes "/m", codes "g") ∷ Some (codes "/", codes "g") ∷ Some (codes "a", codes "b") ∷ Some (codes "//a", codes "a") ∷ Some ([], codes "g") ∷ Some (codes "/", codes "g") ∷ Some (codes "/", codes "<wasm-module>") ∷ []
slashes = refl

-- dots that are no whole name
dots : map parts_of (codes "/..." ∷ codes "/.a" ∷ codes "./a" ∷ codes "../a" ∷ codes "/a/./b" ∷ codes "a." ∷ codes "..a" ∷ codes "/ /  " ∷ [])
    ≡ Some (codes "/", codes "...") ∷ Some (codes "/", codes ".a") ∷ Some (codes ".", codes "a") ∷ Some (codes "..", codes "a") ∷ Some (codes "/a/.", codes "b") ∷ Some ([], codes "a.") ∷ Some ([], codes "..a") ∷ Some (codes "/ ", codes "  ") ∷ []
dots = refl

no_name : map parts_of ([] ∷ codes "/" ∷ codes "////" ∷ codes "." ∷ codes ".." ∷ codes "/m/." ∷ codes "/.." ∷ codes "/m/./" ∷ codes "a//./" ∷ codes "../" ∷ []) ≡ None ∷ None ∷ None ∷ None ∷ None ∷ None ∷ None ∷ None ∷ None ∷ None ∷ []
no_name = refl

-- ---- the path of the first module, and the number behind it

-- a module of a path and a name
abbrev with_names : Option (List ℕ) → Option (List ℕ) → Module
with_names path name = record (module_with [] [] []) { file = record (bare_file 20) { path = path; name = name } }

-- the path of the unit of a module, and the number behind it
abbrev path_behind : ℕ → Option (List ℕ) → Option (List ℕ) → List ℕ × ℕ
path_behind next_id path name = (unit_path next_id (with_names path name), next_id_behind next_id (with_names path name ∷ []))

-- a path that is given, also an empty one
given : path_behind 3 (Some (codes "/m/g.wasm")) (Some (codes "n")) ≡ (codes "/m/g.wasm", 3)
unfolding digits
given = refl

given-empty : path_behind 3 (Some []) (Some (codes "n")) ≡ ([], 3)
unfolding digits
given-empty = refl

-- a name where no path is given, or one with a zero byte
name-alone : path_behind 5 None (Some (codes "n")) ≡ (codes "/<wasm-module>/n", 5)
unfolding digits
name-alone = refl

zero-in_path : path_behind 5 (Some (0x2F ∷ 0x6D ∷ 0x00 ∷ 0x67 ∷ [])) (Some (codes "a/b/")) ≡ (codes "/<wasm-module>/a/b/", 5)
unfolding digits
zero-in_path = refl

name-empty : path_behind 5 None (Some []) ≡ (codes "/<wasm-module>/", 5)
unfolding digits
name-empty = refl

-- neither: the number rises, and from the last one to 0
generated : path_behind 0 None None ≡ (codes "/<wasm-module>/<gen-0>.wasm", 1)
unfolding digits
generated = refl

generated-zeros : path_behind 41 (Some (0x61 ∷ 0x00 ∷ [])) (Some (0x00 ∷ [])) ≡ (codes "/<wasm-module>/<gen-41>.wasm", 42)
unfolding digits
generated-zeros = refl

generated-last : path_behind 18446744073709551615 None None ≡ (codes "/<wasm-module>/<gen-18446744073709551615>.wasm", 0)
unfolding digits
generated-last = refl

-- the second module plays no part, and without a module no number is taken
second : next_id_behind 7 (with_names (Some (codes "/a")) None ∷ with_names None None ∷ []) ≡ 7
second = refl

no_module : next_id_behind 7 [] ≡ 7
no_module = refl

-- ---- what is refused

abbrev refused : List (Option (List ℕ) × Option (List ℕ)) → Option (List ℕ)
refused names = refused_path 0 (map (λ n. with_names n.0 n.1) names)

-- a given path, and one that is made of a name; made of an empty one it ends with the name of its directory
refused-paths : map refused (((Some (codes "/.."), None) ∷ []) ∷ ((Some [], Some (codes "n")) ∷ []) ∷ ((None, Some (codes "..")) ∷ []) ∷ [])
    ≡ Some (codes "/..") ∷ Some [] ∷ Some (codes "/<wasm-module>/..") ∷ []
unfolding digits
refused-paths = refl

taken-paths : map refused (((None, Some []) ∷ []) ∷ ((None, None) ∷ []) ∷ ((Some (codes "/a"), None) ∷ (Some (codes "/.."), None) ∷ []) ∷ [] ∷ []) ≡ None ∷ None ∷ None ∷ None ∷ []
unfolding digits
taken-paths = refl
