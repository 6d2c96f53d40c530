-- Address maps that break each rule, and which rule is told where several are broken.
use Rattle.std.proofs.Common.{◌≡◌, ℕ, List, [], ◌∷◌, Some, None, refl}
use Rattle.std.specs.Prelude.{Option}
use Rattle.dwc_base.specs.declared.records.MapFault.TheVariants.{BodyOffset, NoStart, BeforeCodeSection, Reversed, CodeFalls, CodePastBody, SourceOutside}
use Rattle.dwc_native.specs.Functions.{AddressMap, map_fault}
use Rattle.dwc_worked.proofs.LineTables.{map_small}

-- ---- each rule alone, the code section's contents being at 20

body_offset-alone : map_fault 20 (record map_small { body_offset = 1 }) ≡ Some BodyOffset
body_offset-alone = refl

start-missing : map_fault 20 (record map_small { start = None }) ≡ Some NoStart
start-missing = refl

end-missing : map_fault 20 (record map_small { end = None }) ≡ Some NoStart
end-missing = refl

before_code_section : map_fault 23 map_small ≡ Some BeforeCodeSection
before_code_section = refl

-- a function may start where the section does
at_code_section : map_fault 22 map_small ≡ None
at_code_section = refl

reversed : map_fault 20 (record map_small { start = Some 33; end = Some 22; entries = [] }) ≡ Some Reversed
reversed = refl

-- a function of no bytes of wasm is good
empty_function : map_fault 20 (record map_small { start = Some 22; end = Some 22; entries = [] }) ≡ None
empty_function = refl

-- the code offsets 8 and 5
code-falls : map_fault 20 (record map_small { entries = (8, Some 25) ∷ (5, Some 30) ∷ [] }) ≡ Some CodeFalls
code-falls = refl

-- two entries may stand at one offset
code-stays : map_fault 20 (record map_small { entries = (5, Some 25) ∷ (5, Some 30) ∷ [] }) ≡ None
code-stays = refl

-- the body has 30 bytes: an entry may stand at its end and not past it
code-at_end : map_fault 20 (record map_small { entries = (30, Some 25) ∷ [] }) ≡ None
code-at_end = refl

code-past_body : map_fault 20 (record map_small { entries = (31, None) ∷ [] }) ≡ Some CodePastBody
code-past_body = refl

-- a source may be the start or the end, and not before or past them
source-at_bounds : map_fault 20 (record map_small { entries = (0, Some 22) ∷ (1, Some 33) ∷ [] }) ≡ None
source-at_bounds = refl

source-before : map_fault 20 (record map_small { entries = (0, Some 21) ∷ [] }) ≡ Some SourceOutside
source-before = refl

source-past : map_fault 20 (record map_small { entries = (0, Some 34) ∷ [] }) ≡ Some SourceOutside
source-past = refl

-- ---- in order: a map that breaks every rule, mended rule by rule

abbrev pub broken : ℕ → Option ℕ → Option ℕ → List (ℕ × Option ℕ) → AddressMap
broken body_offset start end entries = record { symbol = None; start = start; end = end; body_offset = body_offset; body_len = 30; entries = entries }

all_broken : map_fault 20 (broken 1 None None ((5, Some 99) ∷ (31, Some 99) ∷ (4, None) ∷ [])) ≡ Some BodyOffset
all_broken = refl

then_no_start : map_fault 20 (broken 0 None (Some 9) ((5, Some 99) ∷ (31, Some 99) ∷ (4, None) ∷ [])) ≡ Some NoStart
then_no_start = refl

then_before_code_section : map_fault 20 (broken 0 (Some 10) (Some 9) ((5, Some 99) ∷ (31, Some 99) ∷ (4, None) ∷ [])) ≡ Some BeforeCodeSection
then_before_code_section = refl

then_reversed : map_fault 20 (broken 0 (Some 22) (Some 9) ((5, Some 99) ∷ (31, Some 99) ∷ (4, None) ∷ [])) ≡ Some Reversed
then_reversed = refl

-- the first entry that breaks a rule is told, whatever breaks behind it
then_first_entry : map_fault 20 (broken 0 (Some 22) (Some 33) ((5, Some 99) ∷ (31, Some 99) ∷ (4, None) ∷ [])) ≡ Some SourceOutside
then_first_entry = refl

-- of one entry that falls, passes the body or has its source outside, the code offset is looked at first
then_second_entry : map_fault 20 (broken 0 (Some 22) (Some 33) ((5, Some 25) ∷ (31, Some 99) ∷ (4, None) ∷ [])) ≡ Some CodePastBody
then_second_entry = refl

then_third_entry : map_fault 20 (broken 0 (Some 22) (Some 33) ((5, Some 25) ∷ (30, Some 30) ∷ (4, Some 99) ∷ [])) ≡ Some CodeFalls
then_third_entry = refl

then_good : map_fault 20 (broken 0 (Some 22) (Some 33) ((5, Some 25) ∷ (30, Some 30) ∷ (30, None) ∷ [])) ≡ None
then_good = refl
