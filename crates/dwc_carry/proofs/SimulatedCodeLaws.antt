-- The simulated functions of a compilation, as transforms and the translated numbers tell them, are those of its modules; they can be
-- written.
use Rattle.std.proofs.Common.{◌≡◌, ℕ, zero, suc, ◌+◌, ◌-◌, ◌<◌, ◌≤◌, ◌^◌, List, [], ◌∷◌, ◌++◌, map, cond, get_or, length, refl, ap, ap₂, sym, ◌∙◌, subst, arith, Bool, true, false, Option, Some, None, All}
use Rattle.std.specs.Prelude.{◌==◌, ◌&&◌, not, is_some, nat_lt, nat_le, if◌then◌else◌, option_map, IfSome}
use Rattle.std.specs.List.{cons_option, filter_map, flat_map}
use Rattle.std.specs.Option.{option_or, unwrap_or}
use Rattle.std.proofs.lemmas.Bool.{and_parts, leb-true, ltb-false}
use Rattle.std.proofs.lemmas.List.{length-map}
use Rattle.std.proofs.lemmas.List.Elements.{All-nil, All-cons, All-head, All-tail, All-append, All-map, filter_map-append}
use Rattle.dwc_base.specs.declared.records.MapFault.{MapFault}
use Rattle.dwc_base.specs.declared.records.MapFault.TheVariants.{BodyOffset, BeforeCodeSection, Reversed, CodeFalls, CodePastBody, SourceOutside}
use Rattle.dwc_base.specs.declared.records.OutputFor.{OutputFor}
use Rattle.dwc_base.specs.declared.translation.ModuleTranslation.{ModuleTranslation}
use Rattle.dwc_native.specs.Addends.{HaveAddends, is_long, longest_function}
use Rattle.dwc_rules.specs.Carried.{Module}
use Rattle.dwc_native.specs.Compiled.{ToldModule}
use Rattle.dwc_carried.specs.DefinedFunctions.{DefinedFunction}
use Rattle.dwc_native.specs.Functions.{AddressMap, Function, Recorded, bounds_fault, entry_fault, function_of, functions_of, is_source_within, map_fault, recorded_entry, recorded_sources, wasm_entry}
use Rattle.dwc_carried.specs.SimulatedUnitRules.{simulated_in_files}
use Rattle.dwc_carried.specs.SimulatedFunctions.{defined_from, is_simulated, simulated_among, simulated_functions}
use Rattle.dwc_base.specs.Listing.{first_of}
use Rattle.dwc_carried.specs.SimulatedUnit.{whole_interval, whole_intervals}
use Rattle.dwc_compiled.specs.AddressMaps.{address_map_view}
use Rattle.dwc_isa.specs.Registers.{Registers}
use Rattle.dwc_addr.specs.Compilations.{CompilationValue, IsCounted}
use Rattle.dwc_addr.specs.Numbers.{Compiled, function_count}
use Rattle.dwc_addr.specs.Transforms.{first_bad_map}
use Rattle.dwc_addr.proofs.EntryLaws.{all-good}
use Rattle.dwc_image.specs.ImageRows.{IsOrdered}
use Rattle.dwc_image.proofs.OrderLaws.{kept-ordered}
use Rattle.dwc_carry.specs.Inputs.{bad_map, bad_map_from, functions_from, modules_from, modules_of, names_of, told_from}
use Rattle.dwc_carry.specs.SimulatedCode.{CanWrite, HasFirstLine, HasLowEnd, intervals_of, left_in, left_of}
use Rattle.dwc_carry.proofs.CompiledLaws.{counted-length, told-length}
use Rattle.dwc_carry.proofs.RefusalLaws.{unmapped}

-- ---- they are those of the modules

module-left : (translated : ℕ → Bool) (code_offset place : ℕ) (fs : List Function) → left_of translated code_offset fs ≡ map (λ d. (code_offset, d.function)) (simulated_among translated (defined_from place fs))
module-left translated code_offset place [] = refl
module-left translated code_offset place (f ∷ fs) = go (is_simulated translated f) (module-left translated code_offset (suc place) fs)
  where
    go : (b : Bool) → left_of translated code_offset fs ≡ map (λ d. (code_offset, d.function)) (simulated_among translated (defined_from (suc place) fs))
        → ◌≡◌ {A = List (ℕ × Function)} (if b then (code_offset, f) ∷ left_of translated code_offset fs else left_of translated code_offset fs)
        (map (λ d. (code_offset, d.function)) (cond {A = List DefinedFunction} b (record { place = place; function = f } ∷ simulated_among translated (defined_from (suc place) fs)) (simulated_among translated (defined_from (suc place) fs))))
    go true more = ap (λ (xs : List (ℕ × Function)). (code_offset, f) ∷ xs) more
    go false more = more

modules-left : (output : OutputFor) (translated : ℕ → Bool) (version number : ℕ) (ts : List ModuleTranslation) (fss : List (List Compiled)) (told : List ToldModule) → length fss ≡ length ts → length told ≡ length ts
    → left_in translated ts (functions_from output number ts fss) ≡ simulated_in_files translated (modules_from output version number ts fss told)
unfolding simulated_functions
modules-left output translated version number [] fss told same counted = refl
modules-left output translated version number (t ∷ ts) [] told same counted = absurd (omega (arith, same))
modules-left output translated version number (t ∷ ts) (fs ∷ fss) [] same counted = absurd (omega (arith, counted))
modules-left output translated version number (t ∷ ts) (fs ∷ fss) (x ∷ told) same counted =
    ap₂ (λ (xs ys : List (ℕ × Function)). xs ++ ys)
    (module-left translated t.code_section_offset 0 (functions_of output t.code_section_offset number (map address_map_view fs)))
    (modules-left output translated version (number + length fs) ts fss told (omega (arith, same)) (omega (arith, counted)))

-- The functions that are left by the translated numbers are the simulated ones.
pub all-left : (registers : Registers) (c : CompilationValue) (translated : ℕ → Bool) → IsCounted c.translations c.functions c.memory_offsets
    → left_in translated c.translations (functions_from c.tunables.output_for 0 c.translations c.functions) ≡ simulated_in_files translated (modules_of registers c)
all-left registers c translated counted =
    let same = counted-length c.translations c.functions c.memory_offsets counted in
    modules-left c.tunables.output_for translated c.tunables.dwarf_version 0 c.translations c.functions (told_from c.tunables.output_for registers (names_of c) 0 0 c.functions c.memory_offsets) same
    (told-length c.tunables.output_for registers (names_of c) 0 0 c.functions c.memory_offsets (counted.offsets_given ∙ sym same) ∙ same)

-- ---- their intervals

module-intervals : (code_offset : ℕ) (ds : List DefinedFunction) → intervals_of (map (λ d. (code_offset, d.function)) ds) ≡ filter_map (λ d. whole_interval d.function) ds
module-intervals code_offset [] = refl
module-intervals code_offset (d ∷ ds) = ap (cons_option (whole_interval d.function)) (module-intervals code_offset ds)

-- The code of the simulated functions of modules is that of each of these.
pub all-intervals : (translated : ℕ → Bool) (ms : List Module) → intervals_of (simulated_in_files translated ms) ≡ flat_map (whole_intervals translated) ms
all-intervals translated [] = refl
all-intervals translated (m ∷ ms) =
    filter_map-append (λ (f : ℕ × Function). whole_interval f.1) (map (λ d. (m.file.code_offset, d.function)) (simulated_functions translated m)) (simulated_in_files translated ms)
    ∙ ap₂ (λ xs ys. xs ++ ys) (module-intervals m.file.code_offset (simulated_functions translated m)) (all-intervals translated ms)

-- ---- they can be written

-- a map whose end, if there is one, has 32 bits
abbrev IsLow : AddressMap → Type 0
IsLow m = IfSome m.end (λ end. end < 2 ^ 32)

-- a source as a line of its file
abbrev HasLine : ℕ → Recorded → Type 0
HasLine code_offset e = code_offset + e.wasm < 2 ^ 32

-- the lines of an entry, of a source or none, and of those behind it
abbrev HaveLines : ℕ → ℕ → List Recorded → Option ℕ → Type 0
HaveLines code_offset native more source = All (HasLine code_offset) (cons_option (option_map (λ wasm. record { native = native; wasm = wasm }) (option_map (λ x. x - code_offset) source)) more)

abbrev sources_in : ℕ → List (ℕ × Option ℕ) → List Recorded
sources_in code_offset es = filter_map recorded_entry (map (wasm_entry code_offset) es)

entries-low : (code_offset start end len code : ℕ) (es : List (ℕ × Option ℕ)) → code_offset ≤ start → end < 2 ^ 32 → entry_fault start end len code es ≡ None → All (HasLine code_offset) (filter_map recorded_entry (map (wasm_entry code_offset) es))
entries-low code_offset start end len code [] from low h = All-nil (HasLine code_offset)
entries-low code_offset start end len code (e ∷ es) from low h = go (nat_lt e.0 code) (nat_lt len e.0) (is_source_within start end e.1) refl (entries-low code_offset start end len e.0 es from low) h
  where
    one : (o : Option ℕ) → is_source_within start end o ≡ true → All (HasLine code_offset) (sources_in code_offset es) → HaveLines code_offset e.0 (sources_in code_offset es) o
    one None within more = more
    one (Some source) within more =
        let parts = and_parts (nat_le start source) (nat_le source end) within in
        let above = leb-true start source parts.0 in
        let below = leb-true source end parts.1 in
        All-cons (HasLine code_offset) (record { native = e.0; wasm = source - code_offset }) (filter_map recorded_entry (map (wasm_entry code_offset) es)) (omega (arith, from, low, above, below)) more

    go : (a b c : Bool) → is_source_within start end e.1 ≡ c → (entry_fault start end len e.0 es ≡ None → All (HasLine code_offset) (filter_map recorded_entry (map (wasm_entry code_offset) es)))
        → ◌≡◌ {A = Option MapFault} (if a then Some CodeFalls else (if b then Some CodePastBody else (if c then entry_fault start end len e.0 es else Some SourceOutside))) None
        → HaveLines code_offset e.0 (sources_in code_offset es) e.1
    go true b c is more h = absurd (cc)
    go false true c is more h = absurd (cc)
    go false false false is more h = absurd (cc)
    go false false true is more h = one e.1 is (more h)

lines-low : (output : OutputFor) (code_offset number : ℕ) (m : AddressMap) → map_fault code_offset m ≡ None → IsLow m → All (HasLine code_offset) (recorded_sources (function_of output code_offset number m))
lines-low output code_offset number m h low = go (m.body_offset == 0) m.start m.end low h
  where
    inner : (start end : ℕ) (a b : Bool) → nat_lt start code_offset ≡ a → end < 2 ^ 32
        → ◌≡◌ {A = Option MapFault} (if a then Some BeforeCodeSection else (if b then Some Reversed else entry_fault start end m.body_len 0 m.entries)) None → All (HasLine code_offset) (sources_in code_offset m.entries)
    inner start end true b is low h = absurd (cc)
    inner start end false true is low h = absurd (cc)
    inner start end false false is low h = entries-low code_offset start end m.body_len 0 m.entries (ltb-false start code_offset is) low h

    go : (a : Bool) (start end : Option ℕ) → IfSome end (λ x. x < 2 ^ 32) → ◌≡◌ {A = Option MapFault} (if a then bounds_fault code_offset m start end else Some BodyOffset) None → All (HasLine code_offset) (sources_in code_offset m.entries)
    go false start end low h = absurd (cc)
    go true None end low h = absurd (cc)
    go true (Some start) None low h = absurd (cc)
    go true (Some start) (Some end) low h = inner start end (nat_lt start code_offset) (nat_lt end start) refl low h

-- the function of a good map is ordered
ordered-one : (output : OutputFor) (code_offset number : ℕ) (m : AddressMap) → map_fault code_offset m ≡ None → IsOrdered (function_of output code_offset number m)
ordered-one output code_offset number m good =
    All-head IsOrdered (function_of output code_offset number m) [] (kept-ordered (function_of output code_offset number m ∷ []) (record {
      output = output;
      code_offset = code_offset;
      first_number = number;
      maps = m ∷ [];
      good = ap (λ (o : Option MapFault). option_or {T = ℕ × MapFault} (option_map (λ why. (0, why)) o) None) good;
      kept = refl;
    }))

short-one : (translated : ℕ → Bool) (f : Function) → is_simulated translated f ≡ true → is_long f ≡ false → f.length < 2 ^ 31
short-one translated f left short =
    let named = (and_parts (is_some f.symbol) (not (translated f.number)) left).0 in
    let low = ltb-false longest_function f.length (sym (ap (λ b. b && nat_lt longest_function f.length) named) ∙ short) in
    omega (arith, low)

fit-more : (translated : ℕ → Bool) (code_offset : ℕ) (f : Function) (rest : List (ℕ × Function)) → IsOrdered f → All (HasLine code_offset) (recorded_sources f) → is_long f ≡ false → All CanWrite rest
    → All CanWrite (if is_simulated translated f then (code_offset, f) ∷ rest else rest)
fit-more translated code_offset f rest ordered lines short more = go (is_simulated translated f) refl
  where
    go : (b : Bool) → is_simulated translated f ≡ b → All CanWrite (if b then (code_offset, f) ∷ rest else rest)
    go false is = more
    go true is = All-cons CanWrite (code_offset, f) rest (record { lists = record { order = ordered; lines = lines }; short = short-one translated f is short }) more

module-fits : (output : OutputFor) (translated : ℕ → Bool) (code_offset number : ℕ) (ms : List AddressMap) → All (λ m. map_fault code_offset m ≡ None) ms → All IsLow ms → All (λ f. is_long f ≡ false) (functions_of output code_offset number ms)
    → All CanWrite (left_of translated code_offset (functions_of output code_offset number ms))
module-fits output translated code_offset number [] good low short = All-nil CanWrite
module-fits output translated code_offset number (m ∷ ms) good low short =
    let here = All-head (λ (n : AddressMap). map_fault code_offset n ≡ None) m ms good in
    let rest = functions_of output code_offset (number + 1) ms in
    fit-more translated code_offset (function_of output code_offset number m) (left_of translated code_offset rest) (ordered-one output code_offset number m here) (lines-low output code_offset number m here (All-head IsLow m ms low))
    (All-head (λ (g : Function). is_long g ≡ false) (function_of output code_offset number m) rest short)
    (module-fits output translated code_offset (number + 1) ms (All-tail (λ (n : AddressMap). map_fault code_offset n ≡ None) m ms good) (All-tail IsLow m ms low)
    (All-tail (λ (g : Function). is_long g ≡ false) (function_of output code_offset number m) rest short))

neither : {A : Type 0} (o p : Option A) → option_or o p ≡ None → (o ≡ None) × (p ≡ None)
neither None p h = (refl, h)
neither (Some x) p h = absurd (cc)

modules-fit : (output : OutputFor) (translated : ℕ → Bool) (number place : ℕ) (ts : List ModuleTranslation) (fss : List (List Compiled)) → bad_map_from place ts fss ≡ None → All (All HasLowEnd) fss → All HaveAddends (functions_from output number ts fss)
    → All CanWrite (left_in translated ts (functions_from output number ts fss))
modules-fit output translated number place [] fss good low addends = All-nil CanWrite
modules-fit output translated number place (t ∷ ts) [] good low addends = All-nil CanWrite
modules-fit output translated number place (t ∷ ts) (fs ∷ fss) good low addends =
    let maps = map address_map_view fs in
    let two = neither (option_map (λ (bad : ℕ × MapFault). (place, bad)) (first_bad_map t.code_section_offset 0 maps)) (bad_map_from (suc place) ts fss) good in
    let gs = functions_of output t.code_section_offset number maps in
    let rest = functions_from output (number + length fs) ts fss in
    All-append CanWrite (left_of translated t.code_section_offset gs) (left_in translated ts rest)
    (module-fits output translated t.code_section_offset number maps
    (all-good t.code_section_offset 0 maps (unmapped (λ (bad : ℕ × MapFault). (place, bad)) (first_bad_map t.code_section_offset 0 maps) two.0))
    (All-map IsLow address_map_view fs (All-head (All HasLowEnd) fs fss low)) (All-head HaveAddends gs rest addends).short)
    (modules-fit output translated (number + length fs) (suc place) ts fss two.1 (All-tail (All HasLowEnd) fs fss low) (All-tail HaveAddends gs rest addends))

-- Where no address map is bad, all that are left can be written.
pub all-fit : (translated : ℕ → Bool) (c : CompilationValue) → bad_map c ≡ None → All (All HasLowEnd) c.functions → All HaveAddends (functions_from c.tunables.output_for 0 c.translations c.functions)
    → All CanWrite (left_in translated c.translations (functions_from c.tunables.output_for 0 c.translations c.functions))
all-fit translated c good low addends = modules-fit c.tunables.output_for translated 0 0 c.translations c.functions good low addends

-- ---- their first lines

-- the start of a good map, whose end is low, is a line of its file
start-low : (output : OutputFor) (code_offset number : ℕ) (m : AddressMap) → map_fault code_offset m ≡ None → IsLow m → code_offset + (function_of output code_offset number m).start < 2 ^ 32
start-low output code_offset number m h low = go (m.body_offset == 0) m.start m.end low h
  where
    inner : (start end : ℕ) (a b : Bool) → nat_lt start code_offset ≡ a → nat_lt end start ≡ b → end < 2 ^ 32
        → ◌≡◌ {A = Option MapFault} (if a then Some BeforeCodeSection else (if b then Some Reversed else entry_fault start end m.body_len 0 m.entries)) None → code_offset + (start - code_offset) < 2 ^ 32
    inner start end true b from to low h = absurd (cc)
    inner start end false true from to low h = absurd (cc)
    inner start end false false from to low h = omega (arith, ltb-false start code_offset from, ltb-false end start to, low)

    go : (a : Bool) (start end : Option ℕ) → IfSome end (λ x. x < 2 ^ 32) → ◌≡◌ {A = Option MapFault} (if a then bounds_fault code_offset m start end else Some BodyOffset) None → code_offset + (unwrap_or start 0 - code_offset) < 2 ^ 32
    go false start end low h = absurd (cc)
    go true None end low h = absurd (cc)
    go true (Some start) None low h = absurd (cc)
    go true (Some start) (Some end) low h = inner start end (nat_lt start code_offset) (nat_lt end start) refl refl low h

first-line : (code_offset : ℕ) (f : Function) → code_offset + f.start < 2 ^ 32 → All (HasLine code_offset) (recorded_sources f) → HasFirstLine code_offset f
first-line code_offset f start lines = go (recorded_sources f) lines
  where
    go : (es : List Recorded) → All (HasLine code_offset) es → code_offset + unwrap_or (option_map (λ (e : Recorded). e.wasm) (first_of es)) f.start < 2 ^ 32
    go [] all = start
    go (e ∷ es) all = All-head (HasLine code_offset) e es all

module-lines : (output : OutputFor) (code_offset number : ℕ) (ms : List AddressMap) → All (λ m. map_fault code_offset m ≡ None) ms → All IsLow ms → All (HasFirstLine code_offset) (functions_of output code_offset number ms)
module-lines output code_offset number [] good low = All-nil (HasFirstLine code_offset)
module-lines output code_offset number (m ∷ ms) good low =
    let f = function_of output code_offset number m in
    let here = All-head (λ (n : AddressMap). map_fault code_offset n ≡ None) m ms good in
    let here_low = All-head IsLow m ms low in
    All-cons (HasFirstLine code_offset) f (functions_of output code_offset (number + 1) ms) (first-line code_offset f (start-low output code_offset number m here here_low) (lines-low output code_offset number m here here_low))
    (module-lines output code_offset (number + 1) ms (All-tail (λ (n : AddressMap). map_fault code_offset n ≡ None) m ms good) (All-tail IsLow m ms low))

modules-lines : (output : OutputFor) (number place : ℕ) (ts : List ModuleTranslation) (fss : List (List Compiled)) (i : ℕ) (t : ModuleTranslation) (gs : List Function) → bad_map_from place ts fss ≡ None → All (All HasLowEnd) fss → i < length (functions_from output number ts fss)
    → All (HasFirstLine (get_or ts i t).code_section_offset) (get_or (functions_from output number ts fss) i gs)
modules-lines output number place [] fss i t gs good low inside = absurd (omega (arith, inside))
modules-lines output number place (x ∷ ts) [] i t gs good low inside = absurd (omega (arith, inside))
modules-lines output number place (x ∷ ts) (fs ∷ fss) zero t gs good low inside =
    let maps = map address_map_view fs in
    let here = (neither (option_map (λ (bad : ℕ × MapFault). (place, bad)) (first_bad_map x.code_section_offset 0 maps)) (bad_map_from (suc place) ts fss) good).0 in
    module-lines output x.code_section_offset number maps (all-good x.code_section_offset 0 maps (unmapped (λ (bad : ℕ × MapFault). (place, bad)) (first_bad_map x.code_section_offset 0 maps) here))
    (All-map IsLow address_map_view fs (All-head (All HasLowEnd) fs fss low))
modules-lines output number place (x ∷ ts) (fs ∷ fss) (suc i) t gs good low inside =
    let maps = map address_map_view fs in
    let rest = (neither (option_map (λ (bad : ℕ × MapFault). (place, bad)) (first_bad_map x.code_section_offset 0 maps)) (bad_map_from (suc place) ts fss) good).1 in
    modules-lines output (number + length fs) (suc place) ts fss i t gs rest (All-tail (All HasLowEnd) fs fss low) (omega (arith, inside))

functions-count : (output : OutputFor) (code_offset number : ℕ) (ms : List AddressMap) → length (functions_of output code_offset number ms) ≡ length ms
functions-count output code_offset number [] = refl
functions-count output code_offset number (m ∷ ms) = omega (arith, functions-count output code_offset (number + 1) ms)

-- a module has no more functions than all have
module-count : (output : OutputFor) (number : ℕ) (ts : List ModuleTranslation) (fss : List (List Compiled)) (i : ℕ) (gs : List Function) → i < length (functions_from output number ts fss) → length (get_or (functions_from output number ts fss) i gs) ≤ function_count fss
module-count output number [] fss i gs inside = absurd (omega (arith, inside))
module-count output number (t ∷ ts) [] i gs inside = absurd (omega (arith, inside))
module-count output number (t ∷ ts) (fs ∷ fss) zero gs inside =
    omega (arith, functions-count output t.code_section_offset number (map address_map_view fs), length-map fs address_map_view)
module-count output number (t ∷ ts) (fs ∷ fss) (suc i) gs inside = omega (arith, module-count output (number + length fs) ts fss i gs (omega (arith, inside)))

module _ (c : CompilationValue) (transforms : List (List Function)) (i : ℕ) (fs : List Function) (made : transforms ≡ functions_from c.tunables.output_for 0 c.translations c.functions) (inside : i < length transforms) (at_fs : fs ≡ get_or transforms i fs) where
  there : fs ≡ get_or (functions_from c.tunables.output_for 0 c.translations c.functions) i fs
  there = at_fs ∙ ap (λ (gss : List (List Function)). get_or gss i fs) made

  within : i < length (functions_from c.tunables.output_for 0 c.translations c.functions)
  within = omega (arith, inside, ap length made)

  -- Where no address map is bad, the first source of each function of a module is a line of its file.
  pub first-lines : (t : ModuleTranslation) → t ≡ get_or c.translations i t → bad_map c ≡ None → All (All HasLowEnd) c.functions → All (HasFirstLine t.code_section_offset) fs
  first-lines t at_t good low =
      subst (λ (x : ModuleTranslation). All (HasFirstLine x.code_section_offset) fs) (sym at_t)
      (subst (All (HasFirstLine (get_or c.translations i t).code_section_offset)) (sym there) (modules-lines c.tunables.output_for 0 0 c.translations c.functions i t fs good low within))

  -- A module has fewer than 2 ^ 32 functions.
  pub few-functions : IsCounted c.translations c.functions c.memory_offsets → length fs < 2 ^ 32
  few-functions counted = omega (arith, ap length there, module-count c.tunables.output_for 0 c.translations c.functions i fs within, counted.few_functions)
