-- A property of the goals that the entries made of kept ones refer to.
use Rattle.std.proofs.Common.{◌≡◌, ℕ, List, Bool, true}
use Rattle.dwc_base.proofs.InLists.{IsIn}
use Rattle.dwc_native.specs.Compiled.{Memory}
use Rattle.dwc_base.specs.declared.records.OutputFor.{OutputFor}
use Rattle.dwc_rules.specs.Kept.{Placed}
use Rattle.dwc_rules.specs.Drafts.{Role, itself, Goal, made_of, synthetic_entry}
use Rattle.dwc_rules.specs.Wrappers.{is_wrapped}
use Rattle.dwc_rules.specs.SyntheticUnit.{place_of_context_pointer, place_of_wasm_pointer}

-- A property of the goals that the entries made of some kept ones refer to, in a module with a memory: entries that are made of others, all
-- parts of wrapped ones, and two of the module's synthetic unit.
pub record GoalsHave (Has : Goal → Type 0) (output : OutputFor) (memory : Memory) (es : List Placed) : Type 0 where
  pub plain : (offset : ℕ) → Has (made_of offset itself)
  pub wrapped : (e : Placed) → IsIn e es → is_wrapped output e ≡ true → (role : Role) → Has (made_of e.entry.offset role)
  pub context : Has (synthetic_entry (place_of_context_pointer memory))
  pub address : Has (synthetic_entry (place_of_wasm_pointer memory))
