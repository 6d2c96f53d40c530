-- The path of the unit that stands for the code of functions without debugging information: its directory and its name. (This project's
-- own rule.)
use Rattle.std.specs.Prelude.{ℕ, ◌+◌, ◌-◌, ◌%◌, ◌^◌, ◌==◌, List, [], ◌∷◌, ◌++◌, length, take, Bool, false, not, ◌||◌, if◌then◌else◌, Option, Some, None, option_map, codes}
use Rattle.std.specs.List.{list_any, suffix_len, after_last}
use Rattle.std.specs.Option.{unwrap_or, option_or, is_none}
use Rattle.std.specs.Str.{bytes_eq}
use Rattle.std.specs.Fmt.{decimal}
use Rattle.dwc_rules.specs.Carried.{Module}

-- ---- the path

-- a text, if it is given and holds no zero byte
abbrev pub without_zero : Option (List ℕ) → Option (List ℕ)
without_zero None = None
without_zero (Some text) = if list_any (λ b. b == 0) text then None else Some text

-- the path that names a module: the one that is given, else one made of the name that its file tells
abbrev pub named_path : Module → Option (List ℕ)
named_path m = option_or (without_zero m.file.path) (option_map (λ name. codes "/<wasm-module>/" ++ name) (without_zero m.file.name))

-- a path made of a number
abbrev pub numbered_path : ℕ → List ℕ
numbered_path n = codes "/<wasm-module>/<gen-" ++ (decimal n ++ codes ">.wasm")

-- The path of the unit, by the first module; where nothing names that, it is made of the number of the next generated name.
abbrev pub unit_path : ℕ → Module → List ℕ
unit_path next_id m = unwrap_or (named_path m) (numbered_path next_id)

-- the number of the next generated name, which rises where one is generated, and of 64 bits begins anew behind the last
abbrev pub next_id_after : ℕ → Module → ℕ
next_id_after next_id m = if is_none (named_path m) then (next_id + 1) % 2 ^ 64 else next_id

-- The same behind the path of the unit of some modules; without a module there is no unit.
abbrev pub next_id_behind : ℕ → List Module → ℕ
next_id_behind next_id [] = next_id
next_id_behind next_id (m ∷ ms) = next_id_after next_id m

-- ---- its name and its directory

-- whether a byte is a slash
abbrev pub is_slash : ℕ → Bool
is_slash b = b == 47

-- a path without slashes at its end
abbrev pub cut_path : List ℕ → List ℕ
cut_path path = take (length path - suffix_len is_slash path) path

-- The name that a path ends with: what follows its last slash, but for slashes at the end.
abbrev pub path_name : List ℕ → List ℕ
path_name path = after_last is_slash (cut_path path)

-- what stands before that name
abbrev pub before_name : List ℕ → List ℕ
before_name path = take (length (cut_path path) - length (path_name path)) (cut_path path)

-- the root where nothing is left of a path
abbrev pub or_root : List ℕ → List ℕ
or_root [] = codes "/"
or_root (b ∷ bs) = b ∷ bs

-- the directory that stands before a name, none where nothing does
abbrev pub directory_before : List ℕ → List ℕ
directory_before [] = []
directory_before (b ∷ bs) = or_root (cut_path (b ∷ bs))

-- The directory of a path: what stands before its name without slashes at the end; the root where only slashes stand there.
abbrev pub path_directory : List ℕ → List ℕ
path_directory path = directory_before (before_name path)

-- ---- a path that is refused

-- whether a name names a file: it is not empty, and neither `.` nor `..`
abbrev pub is_file_name : List ℕ → Bool
is_file_name [] = false
is_file_name (b ∷ bs) = not (bytes_eq (b ∷ bs) (codes ".") || bytes_eq (b ∷ bs) (codes ".."))

-- The path that is refused, as its name names no file. Without modules there is no path.
abbrev pub refused_path : ℕ → List Module → Option (List ℕ)
refused_path next_id [] = None
refused_path next_id (m ∷ ms) = if is_file_name (path_name (unit_path next_id m)) then None else Some (unit_path next_id m)
