-- The small module from its bytes and its map's bytes to the printed text, which has the module's synthetic unit, the carried one, and the
-- simulated one.
use Rattle.std.proofs.Common.{◌≡◌, ℕ, ◌<◌, ◌^◌, ◌-◌, zero, suc, arith, List, [], ◌∷◌, length, get_or, map, slice_get, Some, None, Ok, Option, true, refl, ap, subst, sym, ◌∙◌, lit<}
use Rattle.std.specs.Option.{unwrap_or}
use Rattle.std.specs.Ordering.{nat_cmp}
use Rattle.std.specs.FinMap as finite
use Rattle.std.specs.FinMap.{get-empty, len-empty, len-entries}
use Rattle.std.specs.Prelude.{All, codes}
use Rattle.dwc_base.specs.declared.records.OutputFor.TheVariants.{Default}
use Rattle.dwc_worked.proofs.OnLiterals.{files_on_literals}
use Rattle.dwc_worked.proofs.DraftsOnLiterals.{drafts_on_literals}
use Rattle.dwc_worked.proofs.NamesOnLiterals.{functions_on_literals, names_on_literals}
use Rattle.dwc_worked.proofs.SmallModule.{file_small, file_small_told}
use Rattle.dwc_worked.proofs.Readings.{sections_small}
use Rattle.dwc_worked.proofs.LineTables.{function_small, segments_small}
use Rattle.dwc_worked.proofs.CarriedSmall as Base
use Rattle.dwc_worked.proofs.CarriedSmall.{module_small, unit_small, unit_out, compilation_small, image_small, image-small, table_small, table_of}
use Rattle.dwc_worked.proofs.FieldCases.{each-behind}
use Rattle.dwc_worked.proofs.SimulatedInputs.{named_small}
use Rattle.dwc_base.specs.declared.records.Endian.TheVariants.{Little}
use Rattle.dwc_base.specs.declared.section_name.SectionName.{SectionName}
use Rattle.dwc_base.specs.declared.section_name.SectionName.TheVariants.{Abbrev, Addr, Info, Line, LineStr, Loc, Loclists, Ranges, Rnglists, Str, StrOffsets, CuIndex, Frame}
use Rattle.dwc_base.specs.Sections.{Sections}
use Rattle.dwc_dwarf.specs.LineRows.{LineTable, segments}
use Rattle.dwc_native.specs.CallFrames.{FrameDescription}
use Rattle.dwc_native.specs.Compiled.{LabelRange, LinkageNames, Memory, no_memory, ToldModule, frames_from}
use Rattle.dwc_native.specs.Functions.{AddressMap, Function}
use Rattle.dwc_rules.specs.Carried.{Compilation}
use Rattle.dwc_dwarf.specs.ReadUnits.{Unit, units, table_of_unit}
use Rattle.dwc_output.specs.PathFields.{header_paths_at}
use Rattle.dwc_output.specs.Fields.{fields_at, fields_of_entry, fields_of_instructions, fields_of_line_table, fields_of_named, fields_of_section, relocations_of_fields, IsRelocated, AreRelocated}
use Rattle.dwc_carried.specs.Forests.{carried_units, first_refusal, trees_made}
use Rattle.dwc_carried.specs.LinesCarried.{AreImages, KeepsFiles, CarriesUnit, LinesCarried}
use Rattle.dwc_output.specs.OutputForm.{HaveTargetForm}
use Rattle.dwc_base.specs.Outputs.{OutputRelocation, output_sections}
use Rattle.dwc_rules.specs.Refusals.{Refusal, missing_file}
use Rattle.dwc_dwarf.specs.TreeLaws.{have_short_expressions}
use Rattle.dwc_output.specs.TreeReading.{ranges_read}
use Rattle.dwc_carried.specs.OutputCarried.{OutputCarried, widest}
use Rattle.dwc_worked.proofs.OutputSmall.{HasForm, scopes-small, locations-small, contexts-small}
use Rattle.dwc_map.specs.MapFile.{MapFunction}
use Rattle.dwc_cli.specs.Inputs.{Input, Loaded, loaded, compilation_of, ranges_of, told_of}
use Rattle.dwc_map.proofs.OnLiterals.{map_on_literals}
use Rattle.dwc_cli.specs.RunStatus.{CarryInput, has_short_expressions}
use Rattle.dwc_worked.proofs.Examples.{map_bytes_small, map_small}
use Rattle.dwc_worked.proofs.OutputParts.{all-from, names-from, no_section}
use Rattle.dwc_worked.proofs.WholeOutput.{output_whole, trees_whole}

unfoldable pub whole_on_literals : ℕ
unfolding functions_on_literals names_on_literals drafts_on_literals files_on_literals map_on_literals loaded
whole_on_literals = 0

abbrev pub input_small : Input
input_small = record { map_bytes = map_bytes_small; modules = file_small ∷ [] }

-- facts of an input that are short to write down
abbrev pub refusal_of : Option Loaded → Option Refusal
refusal_of None = Some (missing_file 0)
refusal_of (Some l) = first_refusal (compilation_of l)

abbrev widths_of : Option Loaded → List ℕ
widths_of None = []
widths_of (Some l) = widest Abbrev (compilation_of l) ∷ widest Info (compilation_of l) ∷ widest Line (compilation_of l) ∷ widest Str (compilation_of l) ∷ []

abbrev functions_of : Option Loaded → List (List Function)
functions_of None = []
functions_of (Some l) = map (λ m. m.functions) (compilation_of l).modules

abbrev carried_of : Option Loaded → List Unit
carried_of None = []
carried_of (Some l) = map (λ u. u.unit) (carried_units (compilation_of l))

functions-small : functions_of (loaded input_small) ≡ (function_small ∷ []) ∷ []
unfolding whole_on_literals
functions-small = refl

carried-small : carried_of (loaded input_small) ≡ unit_small ∷ []
unfolding whole_on_literals
carried-small = refl

-- the sections of its output are 125, 181, 101 and 142 bytes long
widths-small : widths_of (loaded input_small) ≡ 1526 ∷ 388 ∷ 338 ∷ 142 ∷ []
unfolding whole_on_literals
widths-small = refl

-- what is read of the small input
abbrev pub read_in : Option Loaded → Loaded
read_in None = record { wasm = []; map_file = map_small }
read_in (Some l) = l

abbrev pub read_small : Loaded
read_small = read_in (loaded input_small)

-- ---- what is told of modules of one function whose map has no labels and no registers

-- such a function
abbrev bare_function : AddressMap → Option FrameDescription → MapFunction
bare_function a frame = record { address_map = a; labels = finite.empty; frame = frame }

-- no value lies anywhere
nowhere : (a : AddressMap) (frame : Option FrameDescription) (place label : ℕ) → unwrap_or (slice_get (ranges_of (bare_function a frame) ∷ []) place) (λ label. []) label ≡ []
nowhere a frame zero label = ap (λ ranges. unwrap_or ranges []) (get-empty nat_cmp label)
nowhere a frame (suc place) label = refl

-- and none has a label
no_labels : finite.entries (finite.empty {K = ℕ} {X = List LabelRange} {R = nat_cmp}) ≡ []
no_labels = none_in _ (sym (len-entries (finite.empty {K = ℕ} {X = List LabelRange} {R = nat_cmp})) ∙ len-empty nat_cmp (List LabelRange))
  where
    none_in : (es : List (ℕ × List LabelRange)) → length es ≡ 0 → es ≡ []
    none_in [] e = refl
    none_in (x ∷ es) e = absurd (omega (arith, e))

unlabelled : (a : AddressMap) (frame : Option FrameDescription) (place : ℕ) → unwrap_or (slice_get (finite.keys (bare_function a frame).labels ∷ []) place) [] ≡ []
unlabelled a frame zero = ap (map (λ (e : ℕ × List LabelRange). e.0)) no_labels
unlabelled a frame (suc place) = refl

-- and of one may be told how it unwinds
unframed : (a : AddressMap) (place : ℕ) → unwrap_or (slice_get ((bare_function a None).frame ∷ []) place) None ≡ None
unframed a zero = refl
unframed a (suc place) = refl

-- so much is told of the module at a place, with the frames of its functions
abbrev pub told_framed : LinkageNames → ℕ → Memory → (ℕ → Option FrameDescription) → ToldModule
told_framed names place memory frames = record { output = Default; place = place; values = λ function label. []; labels = λ function. []; frames = frames; memory = memory; register = λ r. None; names = names }

-- where the function of the module has a number
pub told-framed : (names : LinkageNames) (place number : ℕ) (a : AddressMap) (frame : Option FrameDescription) (memory : Memory) (path : Option (List ℕ))
    → told_of Default finite.empty names place number (record { functions = bare_function a frame ∷ []; memory = memory; path = path }) ≡ told_framed names place memory (frames_from number (frame ∷ []))
told-framed names place number a frame memory path = λ i. record {
  output = Default;
  place = place;
  values = λ function label. nowhere a frame (function - number) label i;
  labels = λ function. unlabelled a frame (function - number) i;
  frames = frames_from number (frame ∷ []);
  memory = memory;
  register = λ r. get-empty nat_cmp r i;
  names = names;
}

-- and where none is told
abbrev pub told_bare : LinkageNames → ℕ → Memory → ToldModule
told_bare names place memory = told_framed names place memory (λ function. None)

pub told-bare : (names : LinkageNames) (place number : ℕ) (a : AddressMap) (memory : Memory) (path : Option (List ℕ)) → told_of Default finite.empty names place number (record { functions = bare_function a None ∷ []; memory = memory; path = path }) ≡ told_bare names place memory
told-bare names place number a memory path = told-framed names place number a None memory path ∙ ap (told_framed names place memory) (λ i function. unframed a (function - number) i)

-- the compilation of what was read of one module, with what is told of that
abbrev pub one_told : Loaded → ToldModule → Compilation
one_told read told = record (compilation_of read) { modules = record (get_or (compilation_of read).modules 0 module_small) { told = told } ∷ [] }

-- ---- the small input is the small compilation, with a path

abbrev pub runtime_names : LinkageNames
runtime_names = record { set_memory = codes "set_mem"; resolve_memory = codes "resolve_mem" }

abbrev pub path_small : List ℕ
path_small = codes "/m/g.wasm"

abbrev pub address_map_small : AddressMap
address_map_small = record { symbol = Some 0; start = Some 22; end = Some 33; body_offset = 0; body_len = 30; entries = (5, Some 25) ∷ (8, None) ∷ (15, Some 30) ∷ (23, None) ∷ [] }

abbrev pub compilation_whole : Compilation
compilation_whole = record compilation_small { modules = named_small module_small ∷ [] }

bytes-small : (name : SectionName) → (get_or (compilation_of read_small).modules 0 module_small).sections.bytes name ≡ sections_small.bytes name
unfolding whole_on_literals
bytes-small Abbrev = refl
bytes-small Addr = refl
bytes-small Info = refl
bytes-small Line = refl
bytes-small LineStr = refl
bytes-small Loc = refl
bytes-small Loclists = refl
bytes-small Ranges = refl
bytes-small Rnglists = refl
bytes-small Str = refl
bytes-small StrOffsets = refl
bytes-small CuIndex = refl
bytes-small Frame = refl

pub compilation-small : compilation_of read_small ≡ compilation_whole
unfolding whole_on_literals
compilation-small = λ i. record {
  order = Little;
  pointer_bytes = 8;
  modules =
      record {
        sections = record { order = Little; bytes = λ name. bytes-small name i; relocations = λ name. [] };
        functions = function_small ∷ [];
        told = told-bare runtime_names 0 0 address_map_small no_memory (Some path_small) i;
        file = record file_small_told { path = Some path_small };
        compressed = None;
        version = 4;
      } ∷ [];
  next_id = 0;
  common_entry = None;
  version = 4;
}

-- ---- nothing of it is refused, and nothing is too large

none-refused : first_refusal compilation_whole ≡ None
unfolding whole_on_literals
none-refused = refl

pub accepted-small : first_refusal (compilation_of read_small) ≡ None
accepted-small = ap first_refusal compilation-small ∙ none-refused

all-short : have_short_expressions (trees_made compilation_whole) ≡ true
unfolding whole_on_literals
all-short = refl

pub short-small : has_short_expressions (compilation_of read_small) ≡ true
short-small = ap has_short_expressions compilation-small ∙ all-short

-- no section of it can be long
all-narrow : (name : SectionName) → widest name compilation_whole < 2 ^ 31
unfolding whole_on_literals
all-narrow Abbrev = lit< tt
all-narrow Addr = lit< tt
all-narrow Info = lit< tt
all-narrow Line = lit< tt
all-narrow LineStr = lit< tt
all-narrow Loc = lit< tt
all-narrow Loclists = lit< tt
all-narrow Ranges = lit< tt
all-narrow Rnglists = lit< tt
all-narrow Str = lit< tt
all-narrow StrOffsets = lit< tt
all-narrow CuIndex = lit< tt
all-narrow Frame = lit< tt

pub narrow-small : (name : SectionName) → widest name (compilation_of read_small) < 2 ^ 31
narrow-small name = subst (λ c. widest name c < 2 ^ 31) (sym compilation-small) (all-narrow name)

-- ---- the lines of the wanted output

pub all-read : All (λ m. (units m.sections).fault ≡ None) compilation_whole.modules
unfolding whole_on_literals
all-read zero d h = refl
all-read (suc k) d h = absurd (omega arith)

-- a table that has the files of the small unit's, and the images of its segments
pub carries_small : (output : Sections) (made : LineTable) → table_of_unit output unit_out ≡ Ok (Some made) → KeepsFiles 4 table_small made → segments made ≡ image_small ∷ [] → CarriesUnit 4 output (record { module_of = named_small module_small; unit = unit_small }) unit_out
carries_small output made read kept same = record {
  input = Some table_small;
  input_read = Base.table-read;
  made = Some made;
  made_read = read;
  kept = kept;
  carried = subst (AreImages (record { module_of = named_small module_small; unit = unit_small })) (sym same) (record { input = segments_small; input_read = Base.input-read; each = ((function_small, refl, image-small), tt) });
}

lines_whole : LinesCarried compilation_whole output_whole
unfolding whole_on_literals
lines_whole = record {
  whole = all-read;
  output = (units (output_sections Little output_whole)).items;
  output_read = refl;
  each = (
    refl,
    (
      carries_small (output_sections Little output_whole) (table_of 1 output_whole) refl (record { version_is = refl; directories = refl; files = refl }) refl,
      (record { made = table_of 2 output_whole; made_read = refl; version_is = refl; directories = refl; files = refl; each = tt }, tt),
    ),
  );
}

pub lines_carried-small : LinesCarried (compilation_of read_small) output_whole
lines_carried-small = subst (λ c. LinesCarried c output_whole) (sym compilation-small) lines_whole

-- ---- its form

form-whole : HaveTargetForm 4 8 (units (output_sections Little output_whole)).items
unfolding whole_on_literals
form-whole = all-from HasForm (units (output_sections Little output_whole)).items ((refl, refl), ((refl, refl), ((refl, refl), tt)))

abbrev relocations_at : ℕ → List OutputRelocation
relocations_at place = (get_or output_whole place no_section).relocations

relocated-info : relocations_of_fields (fields_of_section (output_sections Little output_whole) Info) ≡ relocations_at 1
unfolding whole_on_literals fields_of_section fields_at fields_of_entry
relocated-info = refl

relocated-line : relocations_of_fields (fields_of_section (output_sections Little output_whole) Line) ≡ relocations_at 2
unfolding whole_on_literals fields_of_section fields_of_line_table fields_of_instructions header_paths_at
relocated-line = refl

relocated-ranges : relocations_of_fields (fields_of_section (output_sections Little output_whole) Ranges) ≡ []
unfolding whole_on_literals fields_of_section fields_of_named
relocated-ranges = refl

relocated-loc : relocations_of_fields (fields_of_section (output_sections Little output_whole) Loc) ≡ []
unfolding whole_on_literals fields_of_section fields_of_named
relocated-loc = refl

related-whole : AreRelocated Little output_whole
unfolding fields_of_section
related-whole = all-from (IsRelocated (output_sections Little output_whole)) output_whole (
  record { name = Abbrev; named = refl; fields = refl; rising = each-behind 0 [] refl },
  (
    record { name = Info; named = refl; fields = sym relocated-info; rising = each-behind 0 (relocations_at 1) refl },
    (
      record { name = Line; named = refl; fields = sym relocated-line; rising = each-behind 0 (relocations_at 2) refl },
      (
        record { name = Ranges; named = refl; fields = sym relocated-ranges; rising = each-behind 0 [] refl },
        (
          record { name = Loc; named = refl; fields = sym relocated-loc; rising = each-behind 0 [] refl },
          (
            record { name = Str; named = refl; fields = refl; rising = each-behind 0 [] refl },
            tt,
          ),
        ),
      ),
    ),
  ),
)

-- ---- it carries the small input whole

carried_whole : OutputCarried compilation_whole output_whole
unfolding whole_on_literals ranges_read
carried_whole = record {
  lines = lines_whole;
  wanted = trees_whole;
  is_forest = refl;
  trees = refl;
  targets = refl;
  scopes = (tt, (scopes-small.1.0, (tt, tt)));
  locations = (tt, (locations-small.1.0, (tt, tt)));
  contexts = (tt, (contexts-small.1.0, (tt, tt)));
  texts = refl;
  form = form-whole;
  names = names-from output_whole refl;
  known = refl;
  of_5 = λ is. absurd (omega (arith, is));
  relocated = related-whole;
  frames = refl;
}

pub output_carried-small : OutputCarried (compilation_of read_small) output_whole
output_carried-small = subst (λ c. OutputCarried c output_whole) (sym compilation-small) carried_whole

-- the wanted output carries the small input
pub carries-small : CarryInput input_small output_whole
unfolding whole_on_literals
carries-small = record { read = read_small; is_read = refl; accepted = accepted-small; plain = refl; carried = output_carried-small; short = short-small }
