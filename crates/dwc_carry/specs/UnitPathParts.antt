-- What the functions of the unit's path answer.
use Rattle.std.specs.Prelude.{◌≡◌, ℕ, Option, option_map}
use Rattle.std.specs.Option.{is_none}
use Rattle.std.specs.Global.{Vec}
use Rattle.dwc_rules.specs.Carried.{Module}
use Rattle.dwc_base.specs.TranslationNames.{told_file}
use Rattle.dwc_carried.specs.UnitPaths.{named_path, unit_path}
use Rattle.dwc_base.specs.declared.translation.ModuleTranslation.{ModuleTranslation}
use Rattle.dwc_carry.specs.declared.unit_path.UnitPath.{UnitPath}

-- It is the path that names each module of a translation's file.
abbrev pub IsNamedPath : ModuleTranslation → Option (Vec ℕ) → Type 0
IsNamedPath t path = (m : Module) → m.file ≡ told_file t → option_map (λ bytes. bytes.items) path ≡ named_path m

-- It is the path of the unit of such a module, and tells whether a name was generated.
pub record IsUnitPath (t : ModuleTranslation) (next_id : ℕ) (u : UnitPath) : Type 0 where
  pub path : (m : Module) → m.file ≡ told_file t → u.path.items ≡ unit_path next_id m
  pub is_generated : (m : Module) → m.file ≡ told_file t → u.is_generated ≡ is_none (named_path m)
