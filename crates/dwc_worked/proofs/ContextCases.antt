-- The variable of the context: which entries get one, where it lies, and why that is refused; and what is in file order.
use Rattle.std.proofs.Common.{◌≡◌, ℕ, negsuc, List, [], ◌∷◌, map, None, true, false, refl}
use Rattle.std.specs.Prelude.{codes}
use Rattle.std.specs.Option.{unwrap_or}
use Rattle.dwc_base.specs.declared.records.Address.TheVariants.{Constant}
use Rattle.dwc_base.specs.Reading.{coded}
use Rattle.dwc_dwarf.specs.Values.{Value, address, constant}
use Rattle.dwc_rules.specs.Kept.{Placed}
use Rattle.dwc_native.specs.Compiled.{Place, in_register, at_frame_offset, LabelRange, Memory, no_memory, defined}
use Rattle.dwc_native.specs.Runs.{interval_of}
use Rattle.dwc_dwarf.specs.Trees.{Location, text, locations}
use Rattle.dwc_rules.specs.Drafts.{synthetic_entry, done, goes_to, Draft}
use Rattle.dwc_native.specs.Parts.{context_label}
use Rattle.dwc_native.specs.BuiltExpressions.{BuildRefusal, bad_label_range, unmapped_register}
use Rattle.dwc_rules.specs.LocationRules.{ExpressionSource}
use Rattle.dwc_rules.specs.ContextVariable.{context_over, context_entries, location_refusals}
use Rattle.dwc_rules.specs.DraftOrder.{are_within}
use Rattle.dwc_worked.proofs.DraftsOnLiterals.{drafts_on_literals}
use Rattle.dwc_worked.proofs.LineTables.{function_small}
use Rattle.dwc_worked.proofs.Readings.{sections_small, header_small}
use Rattle.dwc_worked.proofs.SmallLists.{at_unit}
use Rattle.dwc_worked.proofs.SmallModule.{told_small}

-- ---- entries in and outside the small module's function

-- an entry that begins in the function
abbrev begins : List (ℕ × Value)
begins = (0x11, address (Constant 2)) ∷ (0x12, constant 0x06 11) ∷ []

abbrev in_function : Placed
in_function = at_unit 0 20 1 0x2E begins

-- in it a subprogram without a begin of its own, an inlined instance, a block, and an entry point
abbrev others_in_it : List Placed
others_in_it = at_unit 0 30 2 0x2E [] ∷ at_unit 0 40 2 0x1D begins ∷ at_unit 0 50 2 0x0B begins ∷ at_unit 0 60 2 0x03 [] ∷ []

-- outside of it a subprogram, and in a block one without a begin
abbrev outside : List Placed
outside = at_unit 0 70 1 0x2E [] ∷ at_unit 0 80 1 0x0B ((0x11, address (Constant 5)) ∷ (0x12, constant 0x0B 3) ∷ []) ∷ at_unit 0 90 2 0x2E [] ∷ []

-- The source of their unit, where some ranges of the context are told, and a memory; register 2 has the number 14.
abbrev source_with : List LabelRange → Memory → ExpressionSource
source_with context memory = record {
  sections = sections_small;
  header = header_small;
  functions = function_small ∷ [];
  told = record told_small { values = λ function label. unwrap_or (coded ((context_label, context) ∷ []) label) []; memory = memory; register = coded ((2, 14) ∷ []) };
  entries = at_unit 0 11 0 0x11 begins ∷ in_function ∷ at_unit 0 30 2 0x2E [] ∷ at_unit 0 40 2 0x1D begins ∷ at_unit 0 50 2 0x0B begins ∷ at_unit 0 60 2 0x03 [] ∷ outside;
}

abbrev range : Place → ℕ → ℕ → LabelRange
range place start end = record { place = place; start = start; end = end }

-- the variable at a depth, whose type is at a place in the synthetic unit, and where it lies
abbrev variable_at : ℕ → ℕ → List Location → Draft
variable_at depth pointer located = record { depth = depth; tag = 0x34; origin = None; attributes = (0x03, done (text (codes "__vmctx"))) ∷ (0x49, goes_to (synthetic_entry pointer)) ∷ (0x02, done (locations located)) ∷ [] }

abbrev lies : ℕ → ℕ → List ℕ → Location
lies start end bytes = record { over = interval_of 0 (start, end); bytes = bytes }

-- ---- which entries get it

-- in a register over all of the function; the one in it gets it over the same scope
function-gets : map (context_entries (source_with (range (in_register 2) 0 30 ∷ []) no_memory)) (in_function ∷ at_unit 0 30 2 0x2E [] ∷ []) ≡ (variable_at 2 6 (lies 0 30 (0x5E ∷ []) ∷ []) ∷ []) ∷ (variable_at 3 6 (lies 0 30 (0x5E ∷ []) ∷ []) ∷ []) ∷ []
unfolding drafts_on_literals
function-gets = refl

-- entries of other tags get none, nor does the root, nor a subprogram without a scope in force
others-get : map (context_entries (source_with (range (in_register 2) 0 30 ∷ []) no_memory)) (at_unit 0 11 0 0x11 begins ∷ at_unit 0 40 2 0x1D begins ∷ at_unit 0 50 2 0x0B begins ∷ at_unit 0 60 2 0x03 [] ∷ at_unit 0 70 1 0x2E [] ∷ []) ≡ [] ∷ [] ∷ [] ∷ [] ∷ [] ∷ []
unfolding drafts_on_literals
others-get = refl

-- one in a block gets it over the block's scope, in which no function's frame is in force: it lies nowhere
block-gets : context_entries (source_with (range (in_register 2) 0 30 ∷ []) no_memory) (at_unit 0 90 2 0x2E []) ≡ variable_at 3 6 [] ∷ []
unfolding drafts_on_literals
block-gets = refl

-- ---- where it lies

-- nowhere; on a part, and on the rest at an offset of the frame; with a memory its type is at another place
lies-nowhere : context_entries (source_with [] no_memory) in_function ≡ variable_at 2 6 [] ∷ []
unfolding drafts_on_literals
lies-nowhere = refl

lies-in_parts : context_entries (source_with (range (in_register 2) 4 20 ∷ range (at_frame_offset (negsuc 15)) 20 30 ∷ []) (defined 80)) in_function ≡ variable_at 2 7 (lies 4 20 (0x5E ∷ []) ∷ lies 20 30 (0x91 ∷ 0x70 ∷ []) ∷ []) ∷ []
unfolding drafts_on_literals
lies-in_parts = refl

-- ---- refusals

abbrev refused : List LabelRange → List BuildRefusal
refused ranges = location_refusals (context_over (source_with ranges no_memory) in_function)

-- a range that begins above its end, and a register without a number; it needs no memory
refusals : map refused ((range (in_register 2) 9 4 ∷ []) ∷ (range (in_register 3) 0 30 ∷ []) ∷ (range (in_register 2) 0 30 ∷ []) ∷ []) ≡ (bad_label_range context_label ∷ []) ∷ (unmapped_register 3 ∷ []) ∷ [] ∷ []
unfolding drafts_on_literals
refusals = refl

-- ---- file order

in-order : map (are_within 0) ((0 ∷ []) ∷ (0 ∷ 1 ∷ 1 ∷ 2 ∷ 3 ∷ 1 ∷ []) ∷ []) ≡ true ∷ true ∷ []
in-order = refl

-- nothing, no root, a second root, and an entry that lies two below the one before
not-in-order : map (are_within 0) ([] ∷ (1 ∷ []) ∷ (0 ∷ 1 ∷ 0 ∷ []) ∷ (0 ∷ 2 ∷ []) ∷ (0 ∷ 1 ∷ 3 ∷ []) ∷ []) ≡ false ∷ false ∷ false ∷ false ∷ false ∷ []
not-in-order = refl

-- an entry at a depth with what lies in it
within : map (are_within 2) ((2 ∷ []) ∷ (2 ∷ 3 ∷ 4 ∷ 3 ∷ []) ∷ (3 ∷ []) ∷ (2 ∷ 2 ∷ []) ∷ []) ≡ true ∷ true ∷ false ∷ false ∷ []
within = refl
