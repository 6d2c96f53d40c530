-- Functions of modules that are too long are refused first; where none is, addends say all translations.
use Rattle.std.proofs.Common.{◌≡◌, ℕ, ◌+◌, ◌-◌, List, [], ◌∷◌, ◌++◌, map, refl, ap₂, sym, subst, Option, Some, None, Result, Ok, Err, Bool, true, false, All}
use Rattle.std.specs.Prelude.{◌||◌, if◌then◌else◌, option_map}
use Rattle.std.specs.Option.{unwrap_or}
use Rattle.std.specs.List.{cons_option, flat_map, list_any}
use Rattle.std.proofs.lemmas.List.{append_assoc}
use Rattle.std.proofs.lemmas.List.Elements.{All-nil, All-cons, All-head, All-tail}
use Rattle.dwc_base.specs.declared.records.OutputFor.{OutputFor}
use Rattle.dwc_base.specs.declared.faults.Limit.TheVariants.{Addend}
use Rattle.dwc_native.specs.Functions.{AddressMap, Function, map_fault, function_of, functions_of, wasm_entry}
use Rattle.dwc_native.specs.Runs.{HasGoodMap}
use Rattle.dwc_native.specs.Addends.{is_long, HaveAddends}
use Rattle.dwc_rules.specs.Refusals.{Refusal, long_function}
use Rattle.dwc_base.specs.Listing.{first_of}
use Rattle.dwc_carried.specs.Forests.{function_refusals}
use Rattle.dwc_addr.proofs.EntryLaws.{all-good}
use Rattle.dwc_image.specs.CarriedLines.{AreKept}
use Rattle.dwc_carry.specs.declared.error.DebugError.{DebugError}
use Rattle.dwc_carry.specs.declared.error.DebugError.TheVariants.{TooLarge}
use Rattle.dwc_carry.specs.Transformed.{have_long, lengths_checked}

-- ---- what is refused

short-refusals : (fs : List Function) → list_any is_long fs ≡ false → function_refusals fs ≡ []
short-refusals [] h = refl
short-refusals (f ∷ fs) h = go (is_long f) (short-refusals fs) h
  where
    go : (b : Bool) → (list_any is_long fs ≡ false → function_refusals fs ≡ []) → (b || list_any is_long fs) ≡ false → cons_option (if b then Some long_function else None) (function_refusals fs) ≡ []
    go true more h = absurd (cc)
    go false more h = more h

long-refused : (fs : List Function) (rest : List Refusal) → list_any is_long fs ≡ true → first_of (function_refusals fs ++ rest) ≡ Some long_function
long-refused [] rest h = absurd (cc)
long-refused (f ∷ fs) rest h = go (is_long f) (long-refused fs rest) h
  where
    go : (b : Bool) → (list_any is_long fs ≡ true → first_of (function_refusals fs ++ rest) ≡ Some long_function) → (b || list_any is_long fs) ≡ true
        → first_of (cons_option (if b then Some long_function else None) (function_refusals fs) ++ rest) ≡ Some long_function
    go true more h = refl
    go false more h = more h

-- Where no function is too long, nothing is refused of functions.
pub all-short : (fss : List (List Function)) → have_long fss ≡ false → flat_map function_refusals fss ≡ []
all-short [] h = refl
all-short (fs ∷ fss) h = go (list_any is_long fs) refl (all-short fss) h
  where
    go : (b : Bool) → list_any is_long fs ≡ b → (have_long fss ≡ false → flat_map function_refusals fss ≡ []) → (b || have_long fss) ≡ false → function_refusals fs ++ flat_map function_refusals fss ≡ []
    go true is more h = absurd (cc)
    go false is more h = ap₂ (λ (xs ys : List Refusal). xs ++ ys) (short-refusals fs is) (more h)

-- Where one is, that is the first refusal.
pub some-long : (fss : List (List Function)) (rest : List Refusal) → have_long fss ≡ true → first_of (flat_map function_refusals fss ++ rest) ≡ Some long_function
some-long [] rest h = absurd (cc)
some-long (fs ∷ fss) rest h = go (list_any is_long fs) refl (some-long fss rest) h
  where
    go : (b : Bool) → list_any is_long fs ≡ b → (have_long fss ≡ true → first_of (flat_map function_refusals fss ++ rest) ≡ Some long_function) → (b || have_long fss) ≡ true
        → first_of ((function_refusals fs ++ flat_map function_refusals fss) ++ rest) ≡ Some long_function
    go true is more h = subst (λ xs. first_of xs ≡ Some long_function) (sym (append_assoc (function_refusals fs) (flat_map function_refusals fss) rest)) (long-refused fs (flat_map function_refusals fss ++ rest) is)
    go false is more h = subst (λ xs. first_of ((xs ++ flat_map function_refusals fss) ++ rest) ≡ Some long_function) (sym (short-refusals fs is)) (more h)

-- What the check of lengths answers.
pub checked-long : (fss : List (List Function)) (e : DebugError) → Err e ≡ lengths_checked fss → (have_long fss ≡ true) × (e ≡ TooLarge Addend)
checked-long fss e h = go (have_long fss) h
  where
    go : (b : Bool) → ◌≡◌ {A = Result (Unit {0}) DebugError} (Err e) (if b then Err (TooLarge Addend) else Ok tt) → (b ≡ true) × (e ≡ TooLarge Addend)
    go true h = (refl, cc)
    go false h = absurd (cc)

pub checked-short : (fss : List (List Function)) → Ok tt ≡ lengths_checked fss → have_long fss ≡ false
checked-short fss h = go (have_long fss) h
  where
    go : (b : Bool) → ◌≡◌ {A = Result (Unit {0}) DebugError} (Ok tt) (if b then Err (TooLarge Addend) else Ok tt) → b ≡ false
    go true h = absurd (cc)
    go false h = refl

-- ---- addends

-- a function of a good map has a good map
good-made : (output : OutputFor) (code_offset number : ℕ) (m : AddressMap) → map_fault code_offset m ≡ None → HasGoodMap (function_of output code_offset number m)
good-made output code_offset number m good = record { code_offset = code_offset; address_map = m; good = good; made = go m.symbol }
  where
    numbered : ℕ → Option ℕ → Function
    numbered n o = record {
      output = output;
      number = unwrap_or (option_map (λ s. n) o) 0;
      symbol = option_map (λ s. n) o;
      start = unwrap_or m.start 0 - code_offset;
      end = unwrap_or m.end 0 - code_offset;
      length = m.body_len;
      entries = map (wasm_entry code_offset) m.entries;
    }

    go : (o : Option ℕ) → numbered number o ≡ numbered (unwrap_or (option_map (λ s. number) o) 0) o
    go None = refl
    go (Some s) = refl

good-all : (output : OutputFor) (code_offset number : ℕ) (ms : List AddressMap) → All (λ m. map_fault code_offset m ≡ None) ms → All HasGoodMap (functions_of output code_offset number ms)
good-all output code_offset number [] good = All-nil HasGoodMap
good-all output code_offset number (m ∷ ms) good =
    All-cons HasGoodMap (function_of output code_offset number m) (functions_of output code_offset (number + 1) ms) (good-made output code_offset number m (All-head (λ (m : AddressMap). map_fault code_offset m ≡ None) m ms good))
    (good-all output code_offset (number + 1) ms (All-tail (λ (m : AddressMap). map_fault code_offset m ≡ None) m ms good))

kept-good : (fs : List Function) → AreKept fs → All HasGoodMap fs
kept-good fs k = subst (All HasGoodMap) (sym k.kept) (good-all k.output k.code_offset k.first_number k.maps (all-good k.code_offset 0 k.maps k.good))

none-long : (fs : List Function) → list_any is_long fs ≡ false → All (λ f. is_long f ≡ false) fs
none-long [] h = All-nil (λ (f : Function). is_long f ≡ false)
none-long (f ∷ fs) h = go (is_long f) refl (none-long fs) h
  where
    go : (b : Bool) → is_long f ≡ b → (list_any is_long fs ≡ false → All (λ f. is_long f ≡ false) fs) → (b || list_any is_long fs) ≡ false → All (λ f. is_long f ≡ false) (f ∷ fs)
    go true is more h = absurd (cc)
    go false is more h = All-cons (λ (f : Function). is_long f ≡ false) f fs is (more h)

-- The functions of transforms none of whose maps is bad, and none of which is too long, have addends.
pub all-addends : (fss : List (List Function)) → All AreKept fss → have_long fss ≡ false → All HaveAddends fss
all-addends [] kept h = All-nil HaveAddends
all-addends (fs ∷ fss) kept h = go (list_any is_long fs) refl (all-addends fss (All-tail AreKept fs fss kept)) h
  where
    go : (b : Bool) → list_any is_long fs ≡ b → (have_long fss ≡ false → All HaveAddends fss) → (b || have_long fss) ≡ false → All HaveAddends (fs ∷ fss)
    go true is more h = absurd (cc)
    go false is more h = All-cons HaveAddends fs fss (record { maps = kept-good fs (All-head AreKept fs fss kept); short = none-long fs is }) (more h)
