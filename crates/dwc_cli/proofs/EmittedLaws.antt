-- What is emitted for a map and modules, as it was read.
use Rattle.std.proofs.Common.{◌≡◌, ℕ, suc, ◌+◌, ◌<◌, ◌^◌, List, [], ◌∷◌, map, length, refl, sym, ap, ◌∙◌, subst, arith, inl, inr, Bool, true, false, Option, Some, None, Result, Ok, Err, Vec}
use Rattle.std.specs.Prelude.{◌==◌, ◌&&◌, nat_lt, option_map, if◌then◌else◌, sum_by}
use Rattle.std.specs.Option.{option_or}
use Rattle.std.specs.FinMap as finite
use Rattle.std.specs.List.{AllZip, flat_map, fold}
use Rattle.std.specs.Global.{Global}
use Rattle.std.proofs.lemmas.Bool.{eqb-true, ltb-true}
use Rattle.std.proofs.lemmas.List.{length-map, map-append}
use Rattle.dwc_base.specs.declared.records.Endian.{Endian}
use Rattle.dwc_base.specs.declared.records.Endian.TheVariants.{Little, Big}
use Rattle.dwc_base.specs.declared.records.MapFault.{MapFault}
use Rattle.dwc_base.specs.declared.records.OutputFor.{OutputFor}
use Rattle.dwc_base.specs.declared.output.DwarfSection.{DwarfSection}
use Rattle.dwc_base.specs.declared.translation.ModuleTranslation.{ModuleTranslation}
use Rattle.dwc_native.specs.SharedSymbols.{shared_symbol}
use Rattle.dwc_native.specs.Compiled.{LinkageNames, ToldModule, frames_from, labels_from, values_from}
use Rattle.dwc_native.specs.CallFrames.{CommonEntry}
use Rattle.dwc_native.specs.Functions.{AddressMap, map_fault, functions_of}
use Rattle.dwc_base.specs.Wasm.{WasmModule, module_sections}
use Rattle.dwc_base.specs.Translations.{translation_sections, IsWholeTranslation}
use Rattle.dwc_base.specs.TranslationNames.{told_file}
use Rattle.dwc_base.specs.ToldFiles.{file_of}
use Rattle.dwc_rules.specs.Carried.{Module, Compilation}
use Rattle.dwc_rules.specs.Refusals.{Refusal}
use Rattle.dwc_carried.specs.Forests.{first_refusal}
use Rattle.dwc_carried.specs.OutputCarried.{OutputCarried}
use Rattle.dwc_wasm.proofs.Translated.{translation_sections-is}
use Rattle.dwc_compiled.specs.AddressMaps.{address_map_view}
use Rattle.dwc_isa.specs.CallFrames.{cie_view}
use Rattle.dwc_compiled.specs.FunctionFrames.{description_of_metadata}
use Rattle.dwc_isa.specs.Registers.{Registers, registers_of}
use Rattle.dwc_isa.specs.ToldModules.{memory_view}
use Rattle.dwc_source.specs.CompiledModules.{frames_in, labels_in, values_in, told_module}
use Rattle.dwc_addr.specs.Numbers.{Compiled, function_count, symbols_in, all_symbols, symbol_view}
use Rattle.dwc_addr.specs.Transforms.{first_bad_map}
use Rattle.dwc_carry.specs.Inputs as carry
use Rattle.dwc_map.specs.declared.map_file.MapModule.{MapModule}
use Rattle.dwc_map.specs.MapFile as value
use Rattle.dwc_map.specs.MapViews as views
use Rattle.dwc_map.specs.declared.map_file.MapFile.{MapFile}
use Rattle.dwc_base.specs.Outputs.{section_view}
use Rattle.dwc_addr.specs.declared.compilation_error.CompilationError.{CompilationError}
use Rattle.dwc_addr.specs.declared.compilation_error.CompilationError.TheVariants as compiling
use Rattle.dwc_isa.specs.declared.memory_offset.ModuleMemoryOffset.{ModuleMemoryOffset}
use Rattle.dwc_addr.specs.Numbers.{AreDistinct}
use Rattle.dwc_addr.specs.Compilations.{CompilationValue, IsCounted}
use Rattle.dwc_carry.specs.declared.emit.CarriedDwarf.{CarriedDwarf}
use Rattle.dwc_carry.specs.declared.error.DebugError.{DebugError}
use Rattle.dwc_carry.specs.Refusals as refusals
use Rattle.dwc_carry.specs.Refusals.{Told, told, bad_address_map, in_reading}
use Rattle.dwc_base.specs.declared.faults.Limit.TheVariants.{Section, Addend, Range, Jump, Expression, Vmctx}
use Rattle.dwc_carry.specs.Emits as emits
use Rattle.dwc_carry.proofs.EmitLaws.{emits-refused}
use Rattle.dwc_cli.specs.Inputs.{Loaded, compilation_of, bad_map, shared_in, ranges_of, told_of, modules_of, bad_function, bad_module}
use Rattle.dwc_cli.specs.RunStatus.{AreWhole, PassesLimit, has_short_expressions}
use Rattle.dwc_cli.specs.Failures.{compiling_status, input_status, told_status, carrying_status}
use Rattle.dwc_cli.specs.Answers.{first_status, hindrance, Carries, Emits, IsEmitted, IsCause, IsReadAs}
use Rattle.dwc_cli.specs.Compiled.{bad_view, IsCompiled}
use Rattle.dwc_cli.specs.ToldPaths.{HasPath, HavePaths}
use Rattle.dwc_cli.proofs.PathLaws.{told_file-with_path, code_offset-is, counted-with_paths}

-- the functions of each module of a map
abbrev pub functions_in : List MapModule → List (List Compiled)
functions_in ms = map (λ m. m.functions.items) ms

-- the modules of a map, as its value has them
abbrev pub modules_in : List MapModule → List value.MapModule
modules_in ms = map views.module_view ms

-- and where their memories are found
abbrev pub memories_in : List MapModule → List ModuleMemoryOffset
memories_in ms = map (λ m. m.memory) ms

-- and the paths of their files
abbrev pub paths_in : List MapModule → List (Option (List ℕ))
paths_in ms = map (λ m. views.path_view m.path) ms

pub paths-same : (ms : List MapModule) → map views.path_view (map (λ m. m.path) ms) ≡ paths_in ms
paths-same [] = refl
paths-same (m ∷ ms) = ap (λ ps. views.path_view m.path ∷ ps) (paths-same ms)

-- ---- the input

-- the address maps of functions, as they are read
maps-same : (fs : List Compiled) → map address_map_view fs ≡ map (λ (f : value.MapFunction). f.address_map) (map views.function_view fs)
maps-same [] = refl
maps-same (f ∷ fs) = ap (λ ms. address_map_view f ∷ ms) (maps-same fs)

-- where their values lie
values-same : (fs : List Compiled) → values_in fs ≡ map ranges_of (map views.function_view fs)
values-same [] = refl
values-same (f ∷ fs) = ap (λ vs. ranges_of (views.function_view f) ∷ vs) (values-same fs)

-- and their labels
labels-same : (fs : List Compiled) → labels_in fs ≡ map (λ (f : value.MapFunction). finite.keys f.labels) (map views.function_view fs)
labels-same [] = refl
labels-same (f ∷ fs) = ap (λ ls. finite.keys (f.1).value_labels_ranges ∷ ls) (labels-same fs)

-- and how they unwind
frames-same : (fs : List Compiled) → frames_in fs ≡ map (λ (f : value.MapFunction). f.frame) (map views.function_view fs)
frames-same [] = refl
frames-same (f ∷ fs) = ap (λ ds. description_of_metadata f.1 ∷ ds) (frames-same fs)

told-same : (output : OutputFor) (registers : Registers) (names : LinkageNames) (place number : ℕ) (m : MapModule) → told_module output place number m.functions.items m.memory registers names ≡ told_of output registers names place number (views.module_view m)
told-same output registers names place number m = λ i. record {
  output = output;
  place = place;
  values = values_from number (values-same m.functions.items i);
  labels = labels_from number (labels-same m.functions.items i);
  frames = frames_from number (frames-same m.functions.items i);
  memory = memory_view m.memory;
  register = λ r. finite.get registers r;
  names = names;
}

module-same : (output : OutputFor) (version number : ℕ) (t u : ModuleTranslation) (w : WasmModule) (path : Option (List ℕ)) (fs gs : List AddressMap) (told seen : ToldModule) → fs ≡ gs → told ≡ seen → IsWholeTranslation t w → HasPath t path u
    → ◌≡◌ {A = Module} (record { sections = translation_sections u; functions = functions_of output u.code_section_offset number fs; told = told; file = told_file u; compressed = u.compressed; version = version }) (record { sections = module_sections w; functions = functions_of output w.code_offset number gs; told = seen; file = file_of path w; compressed = w.compressed; version = version })
module-same output version number t u w path fs gs told seen maps tells is has = λ i. record {
  sections = (ap translation_sections has.same ∙ translation_sections-is t w is.0) i;
  functions = functions_of output (code_offset-is t u w path is has i) number (maps i);
  told = tells i;
  file = told_file-with_path t u w path is has i;
  compressed = (ap (λ x. x.compressed) has.same ∙ (is.0).compressed) i;
  version = version;
}

pub modules-same : (output : OutputFor) (version : ℕ) (registers : Registers) (names : LinkageNames) (place number : ℕ) (ts us : List ModuleTranslation) (ws : List WasmModule) (ms : List MapModule) → AllZip IsWholeTranslation ts ws → HavePaths ts (paths_in ms) us
    → carry.modules_from output version number us (functions_in ms) (carry.told_from output registers names place number (functions_in ms) (memories_in ms)) ≡ modules_of output version registers names place number ws (modules_in ms)
modules-same output version registers names place number [] [] [] [] h has = refl
modules-same output version registers names place number [] [] (w ∷ ws) ms h has = absurd h
modules-same output version registers names place number (t ∷ ts) us [] ms h has = absurd h
modules-same output version registers names place number (t ∷ ts) (u ∷ us) (w ∷ ws) (m ∷ ms) h has =
    let fs = m.functions.items in
    let count : length (map views.function_view fs) ≡ length fs = length-map fs views.function_view in
    let first = module-same output version number t u w (views.path_view m.path) (map address_map_view fs) (map (λ f. f.address_map) (map views.function_view fs)) (told_module output place number fs m.memory registers names) (told_of output registers names place number (views.module_view m)) (maps-same fs) (told-same output registers names place number m) h.0 has.0 in
    rw (first, count, modules-same output version registers names (suc place) (number + length fs) ts us ws ms h.1 has.1) refl
modules-same output version registers names place number [] (u ∷ us) ws [] h has = absurd has
modules-same output version registers names place number [] (u ∷ us) ws (m ∷ ms) h has = absurd has
modules-same output version registers names place number [] [] ws (m ∷ ms) h has = absurd has
modules-same output version registers names place number (t ∷ ts) [] (w ∷ ws) [] h has = absurd has
modules-same output version registers names place number (t ∷ ts) [] (w ∷ ws) (m ∷ ms) h has = absurd has
modules-same output version registers names place number (t ∷ ts) (u ∷ us) (w ∷ ws) [] h has = absurd has

-- ---- the first bad address map

bad-function : (m code_offset place : ℕ) (fs : List Compiled) → option_map (λ (bad : ℕ × MapFault). bad_view (m, bad)) (first_bad_map code_offset place (map address_map_view fs)) ≡ bad_function m code_offset place (map views.function_view fs)
bad-function m code_offset place [] = refl
bad-function m code_offset place (f ∷ fs) = go (bad-function m code_offset (suc place) fs) (map_fault code_offset (address_map_view f))
  where
    go : option_map (λ (bad : ℕ × MapFault). bad_view (m, bad)) (first_bad_map code_offset (suc place) (map address_map_view fs)) ≡ bad_function m code_offset (suc place) (map views.function_view fs) → (o : Option MapFault)
        → option_map (λ (bad : ℕ × MapFault). bad_view (m, bad)) (option_or (option_map (λ why. (place, why)) o) (first_bad_map code_offset (suc place) (map address_map_view fs)))
        ≡ option_or (option_map (λ rule. record { module_place = m; function_place = place; rule = rule }) o) (bad_function m code_offset (suc place) (map views.function_view fs))
    go others (Some why) = refl
    go others None = others

bad-joined : (m : ℕ) (o : Option (ℕ × MapFault)) (rest : Option (ℕ × (ℕ × MapFault))) → option_map bad_view (option_or (option_map (λ bad. (m, bad)) o) rest) ≡ option_or (option_map (λ (bad : ℕ × MapFault). bad_view (m, bad)) o) (option_map bad_view rest)
bad-joined m None rest = refl
bad-joined m (Some bad) rest = refl

pub bad-same : (place : ℕ) (ts us : List ModuleTranslation) (ws : List WasmModule) (ms : List MapModule) → AllZip IsWholeTranslation ts ws → HavePaths ts (paths_in ms) us → option_map bad_view (carry.bad_map_from place us (functions_in ms)) ≡ bad_module place ws (modules_in ms)
bad-same place [] [] [] [] h has = refl
bad-same place [] [] (w ∷ ws) ms h has = absurd h
bad-same place (t ∷ ts) us [] ms h has = absurd h
bad-same place (t ∷ ts) (u ∷ us) (w ∷ ws) (m ∷ ms) h has =
    bad-joined place (first_bad_map u.code_section_offset 0 (map address_map_view m.functions.items)) (carry.bad_map_from (suc place) us (functions_in ms))
    ∙ rw (bad-function place u.code_section_offset 0 m.functions.items, code_offset-is t u w (views.path_view m.path) h.0 has.0, bad-same (suc place) ts us ws ms h.1 has.1) refl
bad-same place [] (u ∷ us) ws [] h has = absurd has
bad-same place [] (u ∷ us) ws (m ∷ ms) h has = absurd has
bad-same place [] [] ws (m ∷ ms) h has = absurd has
bad-same place (t ∷ ts) [] (w ∷ ws) [] h has = absurd has
bad-same place (t ∷ ts) [] (w ∷ ws) (m ∷ ms) h has = absurd has
bad-same place (t ∷ ts) (u ∷ us) (w ∷ ws) [] h has = absurd has

-- ---- shared symbols

symbols-of : (fs : List Compiled) → map symbol_view (symbols_in fs) ≡ map (λ (f : value.MapFunction). f.address_map.symbol) (map views.function_view fs)
symbols-of [] = refl
symbols-of (f ∷ fs) = ap (λ xs. option_map (λ s. s.0) f.0 ∷ xs) (symbols-of fs)

pub symbols-same : (ms : List MapModule) → map symbol_view (all_symbols (functions_in ms)) ≡ flat_map (λ (m : value.MapModule). map (λ f. f.address_map.symbol) m.functions) (modules_in ms)
symbols-same [] = refl
symbols-same (m ∷ ms) = map-append symbol_view (symbols_in m.functions.items) (all_symbols (functions_in ms)) ∙ rw (symbols-of m.functions.items, symbols-same ms) refl

-- ---- what was read, as it is given to the emitter

abbrev of_view : Loaded → value.MapFile → Loaded
of_view read v = record { wasm = read.wasm; map_file = v }

abbrev order_in : MapFile → Endian
order_in f = if f.target.big_endian then Big else Little

-- what the frames of a map share
abbrev entry_in : MapFile → Option CommonEntry
entry_in f = option_map cie_view f.target.cie

abbrev of_modules : MapFile → List Module → Compilation
of_modules f ms = record { order = order_in f; pointer_bytes = f.target.pointer_bytes; modules = ms; next_id = f.next_id; common_entry = entry_in f; version = f.target.version }

-- DWARF's numbers of the registers of a map
abbrev registers_in : MapFile → Registers
registers_in f = registers_of f.target.registers.items

-- the names of a map
abbrev names_in : MapFile → LinkageNames
names_in f = views.linkage_names f.names

pub compiled : (ts us : List ModuleTranslation) (f : MapFile) (read : Loaded) → HavePaths ts (paths_in f.modules.items) us → IsReadAs ts f read → IsCompiled f.target.output_for f.target.version (order_in f) f.target.pointer_bytes (registers_in f) (entry_in f) (names_in f) us (functions_in f.modules.items) (memories_in f.modules.items) f.next_id read
compiled ts us f read has seen = record {
  input = ap (λ v. compilation_of (of_view read v)) (sym seen.map_is) ∙ ap (of_modules f) (sym (modules-same f.target.output_for f.target.version (registers_in f) (names_in f) 0 0 ts us read.wasm f.modules.items seen.wasm has));
  maps = ap (λ v. bad_map (of_view read v)) (sym seen.map_is) ∙ sym (bad-same 0 ts us read.wasm f.modules.items seen.wasm has);
  symbols = ap (λ v. shared_in (of_view read v)) (sym seen.map_is) ∙ ap shared_symbol (sym (symbols-same f.modules.items));
}

-- ---- what hinders

module _ (c : CompilationValue) (order : Endian) (size : ℕ) (registers : Registers) (entry : Option CommonEntry) (read : Loaded) (is : IsCompiled c.tunables.output_for c.tunables.dwarf_version order size registers entry (carry.names_of c) c.translations c.functions c.memory_offsets c.next_id read) where
  -- what was read is the compilation's input
  input-is : compilation_of read ≡ carry.input_of order size registers entry c
  input-is = is.input

  first-is : (bad : Option (ℕ × (ℕ × MapFault))) (refusal : Option Refusal) → first_status None (option_map bad_view bad) refusal
      ≡ option_map input_status (option_or (option_map (λ bad. bad_address_map bad.0 bad.1.0 bad.1.1) bad) (option_map in_reading refusal))
  first-is (Some bad) refusal = refl
  first-is None (Some r) = refl
  first-is None None = refl

  -- where no two functions have one symbol, by the refusal of the input
  hindrance-is : shared_symbol (map symbol_view (all_symbols c.functions)) ≡ None → hindrance read ≡ option_map input_status (carry.refusal_of order size registers entry c)
  hindrance-is none =
      ap (λ shared. first_status shared (bad_map read) (first_refusal (compilation_of read))) (is.symbols ∙ none)
      ∙ ap (λ bad. first_status None bad (first_refusal (compilation_of read))) is.maps
      ∙ ap (λ input. first_status None (option_map bad_view (carry.bad_map c)) (first_refusal input)) input-is
      ∙ first-is (carry.bad_map c) (first_refusal (carry.input_of order size registers entry c))

  emitted : shared_symbol (map symbol_view (all_symbols c.functions)) ≡ None → (s : Vec DwarfSection Global) → emits.Emits order size registers entry c (Ok s) → IsEmitted read (map section_view s.items)
  emitted none s h = record {
    unhindered = hindrance-is none ∙ ap (option_map input_status) h.0;
    carried = subst (λ input. OutputCarried input (map section_view s.items)) (sym input-is) h.1.output;
    short = ap has_short_expressions input-is ∙ h.1.short;
    whole = subst (λ input. AreWhole input.order (map section_view s.items)) (sym input-is) (record { sound = h.1.sound; spelled = h.1.spelled });
  }

  refused-emitting : shared_symbol (map symbol_view (all_symbols c.functions)) ≡ None → (e : DebugError) → emits.Emits order size registers entry c (Err e) → IsCause read (carrying_status e)
  refused-emitting none e = go (told e)
    where
      -- a limit that the output passes
      limit : carry.refusal_of order size registers entry c ≡ None → PassesLimit (carry.input_of order size registers entry c) → IsCause read 20
      limit accepted passes = inr (inr (refl, hindrance-is none ∙ ap (option_map input_status) accepted, subst PassesLimit (sym input-is) passes))

      go : (t : Told) → refusals.IsCause (emits.PassesLimit (carry.input_of order size registers entry c)) (carry.refusal_of order size registers entry c) t → IsCause read (told_status t)
      go (refusals.refused r) h = inr (inl (hindrance-is none ∙ ap (option_map input_status) h))
      go (refusals.limit (Section name)) h = limit h.0 (inl (name, h.1.1))
      go (refusals.limit Addend) h = absurd h.1
      go (refusals.limit Range) h = absurd h.1
      go (refusals.limit Jump) h = absurd h.1
      go (refusals.limit Expression) h = limit h.0 (inr h.1)
      go (refusals.limit Vmctx) h = absurd h.1
      go refusals.memory h = inl refl

  -- what is refused before anything is written
  pub refused-carrying : shared_symbol (map symbol_view (all_symbols c.functions)) ≡ None → (e : DebugError) → refusals.Refuses (carry.refusal_of order size registers None c) e → IsCause read (carrying_status e)
  refused-carrying none e h = refused-emitting none e (emits-refused order size registers entry c e h)

  -- whatever is written of what is carried
  pub carried : shared_symbol (map symbol_view (all_symbols c.functions)) ≡ None → (d : CarriedDwarf) → emits.IsCarried order size registers entry c d → Carries read (Ok d)
  carried none d h = λ written writes. go written (writes order size registers entry c h)
    where
      go : (written : Result (Vec DwarfSection Global) DebugError) → emits.Emits order size registers entry c written → Emits read written
      go (Ok s) k = emitted none s k
      go (Err e) k = refused-emitting none e k

shared-some : (read : Loaded) (functions : ℕ × ℕ) → shared_in read ≡ Some functions → hindrance read ≡ Some 21
shared-some read functions e = rw e refl

pub refused-compiling : (A : Type 0) (output : OutputFor) (version : ℕ) (ts : List ModuleTranslation) (fss : List (List Compiled)) (offsets : List ModuleMemoryOffset) (order : Endian) (size : ℕ) (registers : Registers) (entry : Option CommonEntry) (names : LinkageNames) (next_id : ℕ) (read : Loaded) → IsCompiled output version order size registers entry names ts fss offsets next_id read
    → (e : CompilationError) → AreDistinct {A = A} (all_symbols fss) (Err e) → IsCause read (compiling_status e)
refused-compiling A output version ts fss offsets order size registers entry names next_id read is (compiling.SharedSymbol first second) h = inr (inl (shared-some read (first, second) (is.symbols ∙ h)))
refused-compiling A output version ts fss offsets order size registers entry names next_id read is compiling.OutOfMemory h = inl refl

-- ---- counts

sum-from : (ms : List value.MapModule) (n : ℕ) → fold (λ a (m : value.MapModule). a + length m.functions) n ms ≡ n + sum_by (λ (m : value.MapModule). length m.functions) ms
sum-from [] n = omega arith
sum-from (m ∷ ms) n = omega (arith, sum-from ms (n + length m.functions), sum-from ms (0 + length m.functions))

count-of : (ms : List MapModule) → function_count (functions_in ms) ≡ sum_by (λ (m : value.MapModule). length m.functions) (modules_in ms)
count-of [] = refl
count-of (m ∷ ms) = omega (arith, length-map m.functions.items views.function_view, count-of ms, sum-from (modules_in ms) (0 + length (map views.function_view m.functions.items)))

both : (a b : Bool) → (a && b) ≡ true → (a ≡ true) × (b ≡ true)
both true b e = (refl, e)
both false b e = absurd (cc)

counts-of : (ts : List ModuleTranslation) (ms : List MapModule) → value.have_counts (map (λ t. t.defined_funcs) ts) (modules_in ms) ≡ true
    → (map length (functions_in ms) ≡ map (λ t. t.defined_funcs) ts) × (length (modules_in ms) ≡ length ts)
counts-of [] [] e = (refl, refl)
counts-of [] (m ∷ ms) e = absurd (cc)
counts-of (t ∷ ts) [] e = absurd (cc)
counts-of (t ∷ ts) (m ∷ ms) e =
    let split = both (length (map views.function_view m.functions.items) == t.defined_funcs) (value.have_counts (map (λ t. t.defined_funcs) ts) (modules_in ms)) e in
    let others = counts-of ts ms split.1 in
    let count : length m.functions.items ≡ t.defined_funcs = sym (length-map m.functions.items views.function_view) ∙ eqb-true (length (map views.function_view m.functions.items)) t.defined_funcs split.0 in
    (rw (count, others.0) refl, ap suc others.1)

-- the modules and functions of a map are counted as the translations have them
counted-split : (ts : List ModuleTranslation) (f : MapFile) → value.IsMapFor (map (λ t. t.defined_funcs) ts) (views.map_file_view f) → IsCounted ts (functions_in f.modules.items) (memories_in f.modules.items)
counted-split ts f fits =
    let ms = f.modules.items in
    let counts = counts-of ts ms fits.counts in
    let few = both (nat_lt (length (modules_in ms)) (2 ^ 32)) (nat_lt (sum_by (λ (m : value.MapModule). length m.functions) (modules_in ms)) (2 ^ 32)) fits.countable in
    record {
      defined = counts.0;
      offsets_given = length-map ms (λ m. m.memory) ∙ sym (length-map ms views.module_view) ∙ counts.1;
      few_modules = subst (λ n. n < 2 ^ 32) counts.1 (ltb-true (length (modules_in ms)) (2 ^ 32) few.0);
      few_functions = subst (λ n. n < 2 ^ 32) (sym (count-of ms)) (ltb-true (sum_by (λ (m : value.MapModule). length m.functions) (modules_in ms)) (2 ^ 32) few.1);
    }

-- there are as many modules as translations
pub modules-counted : (ts : List ModuleTranslation) (f : MapFile) → value.IsMapFor (map (λ t. t.defined_funcs) ts) (views.map_file_view f) → length ts ≡ length f.modules.items
modules-counted ts f fits = sym (counts-of ts f.modules.items fits.counts).1 ∙ length-map f.modules.items views.module_view

-- and the translations with paths
pub counted : (ts us : List ModuleTranslation) (f : MapFile) → HavePaths ts (paths_in f.modules.items) us → value.IsMapFor (map (λ t. t.defined_funcs) ts) (views.map_file_view f) → IsCounted us (functions_in f.modules.items) (memories_in f.modules.items)
counted ts us f has fits = counted-with_paths ts us (paths_in f.modules.items) (functions_in f.modules.items) (memories_in f.modules.items) has (counted-split ts f fits)
