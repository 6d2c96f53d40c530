-- What contracts see of sections, and how proofs tell sections apart.
use Rattle.std.specs.Prelude.{◌≡◌, ℕ, zero, suc, ℤ, List, [], ◌∷◌, map, Bool, true, false, refl}
use Rattle.std.specs.Coded.{Coded, code_by, coded×, coded_ℕ, coded_ℤ, coded_bool, coded_list}
use Rattle.std.proofs.Math.Path.{fun_ext}
use Rattle.dwc_base.specs.declared.records.Endian.{Endian}
use Rattle.dwc_base.specs.declared.records.Endian.TheVariants.{Little, Big}
use Rattle.dwc_base.specs.declared.section_name.SectionName.{SectionName}
use Rattle.dwc_base.specs.declared.section_name.SectionName.TheVariants.{Abbrev, Addr, Info, Line, LineStr, Loc, Loclists, Ranges, Rnglists, Str, StrOffsets, CuIndex, Frame}
use Rattle.dwc_base.specs.Sections.{Sections, Relocation}
use Rattle.dwc_base.specs.Translations.{section_bytes}
use Rattle.dwc_base.specs.Outputs.{section_view, output_sections}
use Rattle.dwc_read.specs.declared.sections.Held.{Held}
use Rattle.dwc_read.specs.declared.sections.Held.TheVariants.{Module, Output}

-- the sections that a reader holds
abbrev pub sections_held : Endian → Held → Sections
sections_held order (Module sections) = record { order = order; bytes = section_bytes sections; relocations = λ name. [] }
sections_held order (Output sections) = output_sections order (map section_view sections.now)

-- ---- how proofs tell sections apart: the lists of their names in a fixed order

abbrev is_little : Endian → Bool
is_little Little = true
is_little Big = false

abbrev order_of : Bool → Endian
order_of true = Little
order_of false = Big

pub order_of-is_little : (e : Endian) → order_of (is_little e) ≡ e
order_of-is_little Little = refl
order_of-is_little Big = refl

abbrev order_code : Coded Endian
order_code = code_by Bool coded_bool is_little order_of order_of-is_little

abbrev relocation_code : Coded Relocation
relocation_code =
    code_by (ℕ × (ℕ × (ℕ × ℤ))) (coded× coded_ℕ (coded× coded_ℕ (coded× coded_ℕ coded_ℤ)))
    (λ r. (r.offset, (r.size, (r.function, r.addend))))
    (λ p. record { offset = p.0; size = (p.1).0; function = ((p.1).1).0; addend = ((p.1).1).1 })
    (λ _. refl)

-- the lists of the names, and the list of a name among them
abbrev of_names : {A : Type 0} → (SectionName → List A) → List (List A)
of_names f = f Abbrev ∷ f Addr ∷ f Info ∷ f Line ∷ f LineStr ∷ f Loc ∷ f Loclists ∷ f Ranges ∷ f Rnglists ∷ f Str ∷ f StrOffsets ∷ f CuIndex ∷ f Frame ∷ []

abbrev first_of_lists : {A : Type 0} → List (List A) → List A
first_of_lists [] = []
first_of_lists (x ∷ xs) = x

abbrev rest_of_lists : {A : Type 0} → List (List A) → List (List A)
rest_of_lists [] = []
rest_of_lists (x ∷ xs) = xs

abbrev nth_list : {A : Type 0} → ℕ → List (List A) → List A
nth_list zero xs = first_of_lists xs
nth_list (suc n) xs = nth_list n (rest_of_lists xs)

abbrev by_name : {A : Type 0} → List (List A) → SectionName → List A
by_name xs Abbrev = nth_list 0 xs
by_name xs Addr = nth_list 1 xs
by_name xs Info = nth_list 2 xs
by_name xs Line = nth_list 3 xs
by_name xs LineStr = nth_list 4 xs
by_name xs Loc = nth_list 5 xs
by_name xs Loclists = nth_list 6 xs
by_name xs Ranges = nth_list 7 xs
by_name xs Rnglists = nth_list 8 xs
by_name xs Str = nth_list 9 xs
by_name xs StrOffsets = nth_list 10 xs
by_name xs CuIndex = nth_list 11 xs
by_name xs Frame = nth_list 12 xs

pub by_name-of_names : {A : Type 0} (f : SectionName → List A) (name : SectionName) → by_name (of_names f) name ≡ f name
by_name-of_names f Abbrev = refl
by_name-of_names f Addr = refl
by_name-of_names f Info = refl
by_name-of_names f Line = refl
by_name-of_names f LineStr = refl
by_name-of_names f Loc = refl
by_name-of_names f Loclists = refl
by_name-of_names f Ranges = refl
by_name-of_names f Rnglists = refl
by_name-of_names f Str = refl
by_name-of_names f StrOffsets = refl
by_name-of_names f CuIndex = refl
by_name-of_names f Frame = refl

abbrev pub sections_code : Coded Sections
sections_code =
    code_by (Endian × (List (List ℕ) × List (List Relocation)))
    (coded× order_code (coded× (coded_list (coded_list coded_ℕ)) (coded_list (coded_list relocation_code))))
    (λ s. (s.order, (of_names s.bytes, of_names s.relocations)))
    (λ p. record { order = p.0; bytes = by_name (p.1).0; relocations = by_name (p.1).1 })
    (λ s i. record { order = s.order; bytes = fun_ext (by_name-of_names s.bytes) i; relocations = fun_ext (by_name-of_names s.relocations) i })
