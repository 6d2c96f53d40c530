-- The modules of a compilation by their places: their functions, and what is told of them.
use Rattle.std.proofs.Common.{◌≡◌, ℕ, zero, suc, ◌+◌, add-one, ◌<◌, ◌≤◌, List, [], ◌∷◌, map, take, drop, length, get_or, slice_get, refl, ap, sym, subst, ◌∙◌, arith, Option, Some, None, All}
use Rattle.std.specs.Prelude.{IfSome, option_map}
use Rattle.std.specs.Option.{unwrap_or}
use Rattle.std.proofs.lemmas.List.{length-map}
use Rattle.std.proofs.lemmas.List.Elements.{All-nil, All-cons, All-weaker}
use Rattle.dwc_carried.specs.SimulatedUnit.{output_of}
use Rattle.dwc_base.specs.declared.records.OutputFor.{OutputFor}
use Rattle.dwc_base.specs.declared.translation.ModuleTranslation.{ModuleTranslation}
use Rattle.dwc_native.specs.Functions.{AddressMap, Function, function_of, functions_of}
use Rattle.dwc_rules.specs.Carried.{Module}
use Rattle.dwc_native.specs.Compiled.{LinkageNames, ToldModule}
use Rattle.dwc_compiled.specs.AddressMaps.{address_map_view}
use Rattle.dwc_isa.specs.Registers.{Registers}
use Rattle.dwc_isa.specs.declared.memory_offset.ModuleMemoryOffset.{ModuleMemoryOffset}
use Rattle.dwc_addr.specs.Numbers.{Compiled, function_count, first_number}
use Rattle.dwc_addr.specs.Compilations.{CompilationValue, functions_at, IsCounted}
use Rattle.dwc_source.specs.CompiledModules.{told_module, told_by, AreNumberedFrom, HasFrames}
use Rattle.dwc_source.specs.declared.compiled_module.CompiledModule.{CompiledModule}
use Rattle.dwc_carry.specs.CarriedModules.{transformed_module}
use Rattle.dwc_carry.specs.Inputs.{names_of, told_from, modules_from, modules_of, functions_from}

-- ---- numbers of functions

-- A function that has a symbol has that as its number, which is one of a range.
abbrev pub HasNumberFrom : ℕ → ℕ → Function → Type 0
HasNumberFrom first count f = (n : ℕ) → f.symbol ≡ Some n → (f.number ≡ n) × (first ≤ n) × (n < first + count)

number-of : (output : OutputFor) (code_offset number first count : ℕ) (m : AddressMap) → first ≤ number → number < first + count → HasNumberFrom first count (function_of output code_offset number m)
number-of output code_offset number first count m low high = go m.symbol
  where
    some-same : (n : ℕ) → Some number ≡ Some n → number ≡ n
    some-same n e = cc

    go : (o : Option ℕ) (n : ℕ) → option_map (λ s. number) o ≡ Some n → (unwrap_or (option_map (λ s. number) o) 0 ≡ n) × (first ≤ n) × (n < first + count)
    go None n e = absurd (clash e)
      where
        clash : ◌≡◌ {A = Option ℕ} None (Some n) → ⊥
        clash x = cc
    go (Some s) n e = let same = some-same n e in (same, omega (arith, same, low), omega (arith, same, high))

numbers-of : (output : OutputFor) (code_offset number first count : ℕ) (ms : List AddressMap) → first ≤ number → number + length ms ≤ first + count → All (HasNumberFrom first count) (functions_of output code_offset number ms)
numbers-of output code_offset number first count [] low high = All-nil (HasNumberFrom first count)
numbers-of output code_offset number first count (m ∷ ms) low high =
    All-cons (HasNumberFrom first count) (function_of output code_offset number m) (functions_of output code_offset (number + 1) ms) (number-of output code_offset number first count m low (omega (arith, high)))
    (numbers-of output code_offset (number + 1) first count ms (omega (arith, low)) (omega (arith, high)))

-- The functions of a module have numbers from that of its first one on.
pub functions-numbered : (output : OutputFor) (code_offset first count : ℕ) (ms : List AddressMap) → length ms ≡ count → All (HasNumberFrom first count) (functions_of output code_offset first ms)
functions-numbered output code_offset first count ms same = numbers-of output code_offset first first count ms (omega arith) (omega (arith, same))

-- as the clone of a unit asks for it
pub frames-numbered : (output : OutputFor) (code_offset first count : ℕ) (ms : List AddressMap) → length ms ≡ count → AreNumberedFrom first count (functions_of output code_offset first ms)
frames-numbered output code_offset first count ms same =
    All-weaker (HasNumberFrom first count) (λ f. IfSome f.symbol (λ n. (f.number ≡ n) × (first ≤ n) × (n < first + count))) (λ f h. of-symbol f f.symbol refl h) (functions_of output code_offset first ms)
    (functions-numbered output code_offset first count ms same)
  where
    of-symbol : (f : Function) (o : Option ℕ) → f.symbol ≡ o → HasNumberFrom first count f → IfSome o (λ n. (f.number ≡ n) × (first ≤ n) × (n < first + count))
    of-symbol f None is h = tt
    of-symbol f (Some n) is h = h n is

-- ---- modules by their places

-- the functions of modules
abbrev pub all_functions : List Module → List (List Function)
all_functions ms = map (λ m. m.functions) ms

pub functions-length : (output : OutputFor) (number : ℕ) (ts : List ModuleTranslation) (fss : List (List Compiled)) → length fss ≡ length ts → length (functions_from output number ts fss) ≡ length ts
functions-length output number [] fss same = refl
functions-length output number (t ∷ ts) [] same = absurd (omega (arith, same))
functions-length output number (t ∷ ts) (fs ∷ fss) same = ap suc (functions-length output (number + length fs) ts fss (omega (arith, same)))

pub told-length : (output : OutputFor) (registers : Registers) (names : LinkageNames) (place number : ℕ) (fss : List (List Compiled)) (offsets : List ModuleMemoryOffset) → length offsets ≡ length fss → length (told_from output registers names place number fss offsets) ≡ length fss
told-length output registers names place number [] offsets same = refl
told-length output registers names place number (fs ∷ fss) [] same = absurd (omega (arith, same))
told-length output registers names place number (fs ∷ fss) (offset ∷ offsets) same = ap suc (told-length output registers names (suc place) (number + length fs) fss offsets (omega (arith, same)))

functions-of-modules : (output : OutputFor) (version number : ℕ) (ts : List ModuleTranslation) (fss : List (List Compiled)) (told : List ToldModule) → length fss ≡ length ts → length told ≡ length ts → all_functions (modules_from output version number ts fss told) ≡ functions_from output number ts fss
functions-of-modules output version number [] fss told same counted = refl
functions-of-modules output version number (t ∷ ts) [] told same counted = absurd (omega (arith, same))
functions-of-modules output version number (t ∷ ts) (fs ∷ fss) [] same counted = absurd (omega (arith, counted))
functions-of-modules output version number (t ∷ ts) (fs ∷ fss) (m ∷ told) same counted =
    ap (λ (gss : List (List Function)). functions_of output t.code_section_offset number (map address_map_view fs) ∷ gss) (functions-of-modules output version (number + length fs) ts fss told (omega (arith, same)) (omega (arith, counted)))

pub counted-length : (ts : List ModuleTranslation) (fss : List (List Compiled)) (offsets : List ModuleMemoryOffset) → IsCounted ts fss offsets → length fss ≡ length ts
counted-length ts fss offsets counted = sym (length-map fss length) ∙ ap length counted.defined ∙ length-map ts (λ (t : ModuleTranslation). t.defined_funcs)

-- The modules of a compilation have its functions.
pub functions-are : (output : OutputFor) (version : ℕ) (registers : Registers) (names : LinkageNames) (ts : List ModuleTranslation) (fss : List (List Compiled)) (offsets : List ModuleMemoryOffset) → IsCounted ts fss offsets → all_functions (modules_from output version 0 ts fss (told_from output registers names 0 0 fss offsets)) ≡ functions_from output 0 ts fss
functions-are output version registers names ts fss offsets counted =
    let same = counted-length ts fss offsets counted in
    functions-of-modules output version 0 ts fss (told_from output registers names 0 0 fss offsets) same (told-length output registers names 0 0 fss offsets (counted.offsets_given ∙ sym same) ∙ same)

output-from : (output : OutputFor) (version : ℕ) (registers : Registers) (names : LinkageNames) (ts : List ModuleTranslation) (fss : List (List Compiled)) (offsets : List ModuleMemoryOffset) → length fss ≡ length ts → length offsets ≡ length ts → 0 < length ts
    → output_of (modules_from output version 0 ts fss (told_from output registers names 0 0 fss offsets)) ≡ output
output-from output version registers names [] fss offsets same given some = absurd (omega (arith, some))
output-from output version registers names (t ∷ ts) [] offsets same given some = absurd (omega (arith, same))
output-from output version registers names (t ∷ ts) (fs ∷ fss) [] same given some = absurd (omega (arith, given))
output-from output version registers names (t ∷ ts) (fs ∷ fss) (offset ∷ offsets) same given some = refl

-- The output that is told of the modules of a compilation is its own, where there is one.
pub output-is : (registers : Registers) (c : CompilationValue) → IsCounted c.translations c.functions c.memory_offsets → 0 < length c.translations → output_of (modules_of registers c) ≡ c.tunables.output_for
output-is registers c counted some =
    output-from c.tunables.output_for c.tunables.dwarf_version registers (names_of c) c.translations c.functions c.memory_offsets (counted-length c.translations c.functions c.memory_offsets counted) counted.offsets_given some

-- what is told of the module at a place
pub told-at : (output : OutputFor) (registers : Registers) (names : LinkageNames) (place number : ℕ) (fss : List (List Compiled)) (offsets : List ModuleMemoryOffset) (i p n : ℕ) (memory : ModuleMemoryOffset) → i < length fss → slice_get offsets i ≡ Some memory → p ≡ place + i → n ≡ number + function_count (take i fss)
    → slice_get (told_from output registers names place number fss offsets) i ≡ Some (told_module output p n (get_or fss i []) memory registers names)
told-at output registers names place number [] offsets i p n memory less at here first = absurd (omega (arith, less))
told-at output registers names place number (fs ∷ fss) [] i p n memory less at here first = absurd (clash at)
  where
    clash : ◌≡◌ {A = Option ModuleMemoryOffset} None (Some memory) → ⊥
    clash x = cc
told-at output registers names place number (fs ∷ fss) (offset ∷ offsets) zero p n memory less at here first =
    ap (λ (x : ℕ). Some (told_module output x number fs offset registers names)) (omega (arith, here))
    ∙ ap (λ (x : ℕ). Some (told_module output p x fs offset registers names)) (omega (arith, first))
    ∙ ap (λ (x : ModuleMemoryOffset). Some (told_module output p n fs x registers names)) (same at)
  where
    same : ◌≡◌ {A = Option ModuleMemoryOffset} (Some offset) (Some memory) → offset ≡ memory
    same x = cc
told-at output registers names place number (fs ∷ fss) (offset ∷ offsets) (suc i) p n memory less at here first =
    told-at output registers names (suc place) (number + length fs) fss offsets i p n memory (omega (arith, less)) at (omega (arith, here)) (omega (arith, first))

-- the functions of the module at a place
functions-there : (output : OutputFor) (number : ℕ) (ts : List ModuleTranslation) (fss : List (List Compiled)) (i n : ℕ) (t : ModuleTranslation) (gs : List Function) → length fss ≡ length ts → i < length ts → n ≡ number + function_count (take i fss)
    → get_or (functions_from output number ts fss) i gs ≡ functions_of output (get_or ts i t).code_section_offset n (map address_map_view (get_or fss i []))
functions-there output number [] fss i n t gs same less first = absurd (omega (arith, less))
functions-there output number (x ∷ ts) [] i n t gs same less first = absurd (omega (arith, same))
functions-there output number (x ∷ ts) (fs ∷ fss) zero n t gs same less first = ap (λ (k : ℕ). functions_of output x.code_section_offset k (map address_map_view fs)) (omega (arith, first))
functions-there output number (x ∷ ts) (fs ∷ fss) (suc i) n t gs same less first = functions-there output (number + length fs) ts fss i n t gs (omega (arith, same)) (omega (arith, less)) (omega (arith, first))

-- ---- the modules that are left

modules-there : (output : OutputFor) (version number : ℕ) (ts : List ModuleTranslation) (fss : List (List Compiled)) (told : List ToldModule) (i : ℕ) (t : ModuleTranslation) (gs : List Function) (x : ToldModule) → length fss ≡ length ts → i < length ts → slice_get told i ≡ Some x
    → drop i (modules_from output version number ts fss told) ≡ transformed_module version (get_or ts i t) (get_or (functions_from output number ts fss) i gs) x ∷ drop (suc i) (modules_from output version number ts fss told)
modules-there output version number [] fss told i t gs x same less at = absurd (omega (arith, less))
modules-there output version number (y ∷ ts) [] told i t gs x same less at = absurd (omega (arith, same))
modules-there output version number (y ∷ ts) (fs ∷ fss) [] i t gs x same less at = absurd (clash at)
  where
    clash : ◌≡◌ {A = Option ToldModule} None (Some x) → ⊥
    clash e = cc
modules-there output version number (y ∷ ts) (fs ∷ fss) (m ∷ told) zero t gs x same less at =
    ap (λ (z : ToldModule). transformed_module version y (functions_of output y.code_section_offset number (map address_map_view fs)) z ∷ modules_from output version (number + length fs) ts fss told) (is at)
  where
    is : ◌≡◌ {A = Option ToldModule} (Some m) (Some x) → m ≡ x
    is e = cc
modules-there output version number (y ∷ ts) (fs ∷ fss) (m ∷ told) (suc i) t gs x same less at = modules-there output version (number + length fs) ts fss told i t gs x (omega (arith, same)) (omega (arith, less)) at

-- the modules from a place on
modules-more : (output : OutputFor) (version : ℕ) (ts : List ModuleTranslation) (fss : List (List Compiled)) (told : List ToldModule) (i : ℕ) (t : ModuleTranslation) (gs : List Function) (x : ToldModule) → length fss ≡ length ts → i < length ts → slice_get told i ≡ Some x
    → drop i (modules_from output version 0 ts fss told) ≡ transformed_module version (get_or ts i t) (get_or (functions_from output 0 ts fss) i gs) x ∷ drop (i + 1) (modules_from output version 0 ts fss told)
modules-more output version ts fss told i t gs x same less at = rw add-one (modules-there output version 0 ts fss told i t gs x same less at)

-- there is a transform for each translation
pub transforms-inside : (c : CompilationValue) (transforms : List (List Function)) (i : ℕ) → IsCounted c.translations c.functions c.memory_offsets → i < length c.translations → transforms ≡ functions_from c.tunables.output_for 0 c.translations c.functions → i < length transforms
transforms-inside c transforms i counted less made =
    omega (arith, less, ap length made, functions-length c.tunables.output_for 0 c.translations c.functions (counted-length c.translations c.functions c.memory_offsets counted))

-- The next module is made of its translation, its transform and what is told of it; its functions are those that are told of.
pub record IsNext (registers : Registers) (c : CompilationValue) (i : ℕ) (t : ModuleTranslation) (fs : List Function) (compiled : CompiledModule) : Type 0 where
  pub left : drop i (modules_of registers c) ≡ transformed_module c.tunables.dwarf_version t fs (told_by registers compiled) ∷ drop (i + 1) (modules_of registers c)
  pub frames : HasFrames compiled fs

pub module-next : (registers : Registers) (c : CompilationValue) (transforms : List (List Function)) (i : ℕ) (t : ModuleTranslation) (fs : List Function) (compiled : CompiledModule) → IsCounted c.translations c.functions c.memory_offsets → i < length c.translations
    → transforms ≡ functions_from c.tunables.output_for 0 c.translations c.functions → t ≡ get_or c.translations i t → fs ≡ get_or transforms i fs
    → slice_get (told_from c.tunables.output_for registers (names_of c) 0 0 c.functions c.memory_offsets) i ≡ Some (told_by registers compiled)
    → ((code_offset : ℕ) → HasFrames compiled (functions_of c.tunables.output_for code_offset (first_number c.functions i) (map address_map_view (functions_at c i))))
    → IsNext registers c i t fs compiled
module-next registers c transforms i t fs compiled counted less made at_t at_fs told frames =
    let same = counted-length c.translations c.functions c.memory_offsets counted in
    let here : fs ≡ get_or (functions_from c.tunables.output_for 0 c.translations c.functions) i fs = at_fs ∙ ap (λ (gss : List (List Function)). get_or gss i fs) made in
    let told_now = told_by registers compiled in
    let rest = drop (i + 1) (modules_of registers c) in
    record {
      left = modules-more c.tunables.output_for c.tunables.dwarf_version c.translations c.functions (told_from c.tunables.output_for registers (names_of c) 0 0 c.functions c.memory_offsets) i t fs told_now same less told
          ∙ ap (λ (x : ModuleTranslation). transformed_module c.tunables.dwarf_version x (get_or (functions_from c.tunables.output_for 0 c.translations c.functions) i fs) told_now ∷ rest) (sym at_t)
          ∙ ap (λ (x : List Function). transformed_module c.tunables.dwarf_version t x told_now ∷ rest) (sym here);
      frames = subst (HasFrames compiled) (sym (here ∙ functions-there c.tunables.output_for 0 c.translations c.functions i (first_number c.functions i) t fs same less (omega arith))) (frames (get_or c.translations i t).code_section_offset);
    }

modules-few : (output : OutputFor) (version number : ℕ) (ts : List ModuleTranslation) (fss : List (List Compiled)) (told : List ToldModule) → length (modules_from output version number ts fss told) ≤ length ts
modules-few output version number [] fss told = omega arith
modules-few output version number (t ∷ ts) [] told = omega arith
modules-few output version number (t ∷ ts) (fs ∷ fss) [] = omega arith
modules-few output version number (t ∷ ts) (fs ∷ fss) (m ∷ told) = omega (arith, modules-few output version (number + length fs) ts fss told)

-- there are no more than translations
pub modules-length : (output : OutputFor) (version : ℕ) (ts : List ModuleTranslation) (fss : List (List Compiled)) (told : List ToldModule) → length (modules_from output version 0 ts fss told) ≤ length ts
modules-length output version ts fss told = modules-few output version 0 ts fss told
