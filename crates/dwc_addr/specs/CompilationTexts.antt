-- A compilation as a text for programmers.
use Rattle.std.specs.Prelude.{ℕ, ◌+◌, ◌==◌, List, [], ◌∷◌, ◌++◌, map, codes, decimal, if◌then◌else◌, Option, Some, None, option_map}
use Rattle.dwc_base.specs.declared.translation.ModuleTranslation.{ModuleTranslation}

-- a module's name
abbrev pub module_name : ModuleTranslation → Option (List ℕ)
module_name t = option_map (λ name. name.now) t.module_name

-- a module by its place, and its name if it has one
abbrev pub module_text : ℕ → Option (List ℕ) → List ℕ
module_text place None = codes "#" ++ decimal place
module_text place (Some name) = codes "#" ++ (decimal place ++ (codes ": " ++ name))

-- what stands between the modules
abbrev pub comma : ℕ → List ℕ
comma place = if place == 0 then [] else codes ", "

-- modules from a place on
abbrev pub modules_text : ℕ → List (Option (List ℕ)) → List ℕ
modules_text place [] = []
modules_text place (name ∷ names) = comma place ++ (module_text place name ++ modules_text (place + 1) names)

-- the modules in brackets
abbrev pub compilation_text : List ModuleTranslation → List ℕ
compilation_text ts = codes "[" ++ (modules_text 0 (map module_name ts) ++ codes "]")
