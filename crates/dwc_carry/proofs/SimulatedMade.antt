-- The unit for functions without debugging information, once all its entries are added, is made as it is wanted.
use Rattle.std.proofs.Common.{◌≡◌, ℕ, suc, ◌+◌, ◌<◌, arith, refl, ap, sym, subst, ◌∙◌, List, [], ◌∷◌, ◌++◌, map, length, Bool, Option, Some, None}
use Rattle.std.specs.Prelude.{is_some}
use Rattle.std.specs.List.{flat_map}
use Rattle.std.proofs.lemmas.List.{length-map}
use Rattle.dwc_base.specs.declared.records.Encoding.{Encoding}
use Rattle.dwc_base.specs.declared.records.OutputFor.{OutputFor}
use Rattle.dwc_rules.specs.Carried.{Module, WantedUnit}
use Rattle.dwc_rules.specs.DraftForests.{settled_unit}
use Rattle.dwc_rules.specs.Drafts.{Draft}
use Rattle.dwc_carried.specs.SimulatedUnit.{base_types, modules_entries, output_of, simulated_root, simulated_unit, whole_intervals}
use Rattle.dwc_dwarf.specs.Trees.{TreeValue}
use Rattle.dwc_unit.specs.declared.lists.RangeList.{RangeList}
use Rattle.dwc_unit.specs.AddedInOrder.{with_entry}
use Rattle.dwc_unit.specs.GivenLines.{GivenLines}
use Rattle.dwc_unit.specs.GivenUnits.{Addition, GivenUnit, IsWritable, names_lines, in_file_order, ordered}
use Rattle.dwc_unit.specs.Renumbered.{renumbered, renumbered_entry}
use Rattle.dwc_unit.proofs.AddedInOrderUnits.{numbered-place}
use Rattle.dwc_clone.specs.ClonedUnits.{draft_depths}
use Rattle.dwc_carry.specs.declared.simulated_root.RootTexts.{RootTexts}
use Rattle.dwc_carry.specs.MadeEntries.{IsDense, with_additions}
use Rattle.dwc_carry.specs.MadeUnits.{HasWantedLines, IsMadeOf, LeadsTo}
use Rattle.dwc_carry.specs.SimulatedAdditions.{root_given, simulated_root_addition}
use Rattle.dwc_carry.specs.SimulatedDrafts.{BeginsWith, IsSimulated}
use Rattle.dwc_carry.proofs.SimulatedMoves.{unit-moves}

-- ---- what it begins with

pub begins-root : (output : OutputFor) (encoding : Encoding) (lines : GivenLines) (t : RootTexts) (list : RangeList) → BeginsWith encoding lines (simulated_root_addition output t list) (root_given output encoding.version encoding.address_size lines t list)
begins-root output encoding lines t list = record { version_is = refl; size_is = refl; lines_are = refl; others = []; is = refl }

pub begins-more : (encoding : Encoding) (lines : GivenLines) (root e : Addition) (u : GivenUnit) → BeginsWith encoding lines root u → BeginsWith encoding lines root (with_entry e u)
begins-more encoding lines root e u begins = record {
  version_is = begins.version_is;
  size_is = begins.size_is;
  lines_are = begins.lines_are;
  others = begins.others ++ e ∷ [];
  is = ap (λ es. es ++ e ∷ []) begins.is;
}

pub begins-all : (encoding : Encoding) (lines : GivenLines) (root : Addition) (es : List Addition) (u : GivenUnit) → BeginsWith encoding lines root u → BeginsWith encoding lines root (with_additions es u)
begins-all encoding lines root [] u begins = begins
begins-all encoding lines root (e ∷ es) u begins = begins-all encoding lines root es (with_entry e u) (begins-more encoding lines root e u begins)

-- ---- the whole

-- It can be written, where its line program is ended.
pub writable : (output : OutputFor) (encoding : Encoding) (lines : GivenLines) (t : RootTexts) (list : RangeList) (u : GivenUnit) → lines.begun ≡ None → lines.address_size ≡ Some encoding.address_size → BeginsWith encoding lines (simulated_root_addition output t list) u → IsWritable encoding.version encoding.address_size (ordered u)
writable output encoding lines t list u ended sized begins = record {
  version = begins.version_is;
  size = begins.size_is;
  ended = ap (λ (l : GivenLines). l.begun) begins.lines_are ∙ ended;
  named = ap (λ es. names_lines (in_file_order es)) begins.is ∙ sym (ap (λ (l : GivenLines). is_some l.address_size) begins.lines_are ∙ ap is_some sized);
}

-- A unit that is made of drafts says others, where they are these with numbers put to places.
pub simulated-made : (at : ℕ → ℕ → Option (ℕ × ℕ)) (encoding : Encoding) (table : List (List ℕ)) (number : ℕ) (w : WantedUnit) (ds es : List Draft) (u : GivenUnit) → HasWantedLines w u → IsSimulated number table ds u
    → map (renumbered_entry at) (settled_unit (λ goal. None) ds) ≡ settled_unit (λ goal. None) es → IsWritable encoding.version encoding.address_size (ordered u) → IsMadeOf at encoding table number w (settled_unit (λ goal. None) es) u
simulated-made at encoding table number w ds es u lines so moved can = record {
  has_lines = lines;
  depths = draft_depths ds;
  order = so.drafted.order;
  leads = so.drafted.leads;
  says = ap (map (renumbered_entry at)) so.drafted.says ∙ moved;
  texts = so.drafted.names;
  writable = can;
}

-- A number of the unit leads to its place.
pub place-there : (at : ℕ → ℕ → Option (ℕ × ℕ)) (number place : ℕ) (u : GivenUnit) → LeadsTo at number (u ∷ []) → IsDense u → place < length u.additions → at number place ≡ Some (number, place)
place-there at number place u leads dense within =
    let counted : number + 0 ≡ number = omega arith in
    subst (λ k. at k place ≡ Some (k, place)) counted (leads 0 u refl place place (numbered-place u place dense within))

-- The unit of a path is made as it is wanted.
pub whole-made : (translated : ℕ → Bool) (at : ℕ → ℕ → Option (ℕ × ℕ)) (encoding : Encoding) (table : List (List ℕ)) (w : WantedUnit) (path : List ℕ) (number : ℕ) (pointers : List TreeValue) (ms : List Module) (u : GivenUnit) → HasWantedLines w u
    → IsSimulated number table (simulated_unit translated path number pointers ms) u → LeadsTo at number (u ∷ []) → IsWritable encoding.version encoding.address_size (ordered u) → IsMadeOf at encoding table number w (settled_unit (λ goal. None) (simulated_unit translated path number (map (renumbered at) pointers) ms)) u
unfolding simulated_unit
whole-made translated at encoding table w path number pointers ms u lines so leads can =
    let order = so.drafted.order in
    let behind = modules_entries translated number pointers ms in
    let root = simulated_root (output_of ms) path (flat_map (whole_intervals translated) ms) in
    let counted : length (draft_depths (root ∷ (base_types ++ behind))) ≡ suc (suc (suc (suc (suc (length behind))))) = length-map (root ∷ (base_types ++ behind)) (λ (d : Draft). d.depth) in
    let types : (place : ℕ) → place < 5 → at number place ≡ Some (number, place) = λ place below. place-there at number place u leads so.dense (omega (arith, below, counted, order.counted)) in
    simulated-made at encoding table number w (simulated_unit translated path number pointers ms) (simulated_unit translated path number (map (renumbered at) pointers) ms) u lines so (unit-moves at translated path number pointers ms types) can
