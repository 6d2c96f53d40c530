-- The paths that a map tells of the files of its modules, in the translations of these.
use Rattle.std.specs.Prelude.{◌≡◌, ℕ, List, [], ◌∷◌, Option, None, option_map}
use Rattle.dwc_base.specs.declared.translation.ModuleTranslation.{ModuleTranslation}

-- a translation is another one with a path
pub record HasPath (old : ModuleTranslation) (given : Option (List ℕ)) (new : ModuleTranslation) : Type 0 where
  pub path : option_map (λ p. p.now) new.path ≡ given
  pub same : ◌≡◌ {A = ModuleTranslation} (record new { path = None }) (record old { path = None })

-- translations are others with these paths, one each
abbrev pub HavePaths : List ModuleTranslation → List (Option (List ℕ)) → List ModuleTranslation → Type 0
HavePaths [] [] [] = Unit {0}
HavePaths (old ∷ olds) (path ∷ paths) (new ∷ news) = HasPath old path new × HavePaths olds paths news
HavePaths _ _ _ = ⊥
