-- What is said of an input by what hinders its lines from being carried.
use Rattle.std.proofs.Common.{◌≡◌, ℕ, List, [], ◌∷◌, Option, Some, None, true, false, refl, sym, ap, ◌∙◌, subst, arith, inl, inr}
use Rattle.std.specs.Prelude.{option_map, IsSome}
use Rattle.dwc_base.specs.Outputs.{OutputSection}
use Rattle.dwc_base.specs.Sections.{unreadable, unsupported}
use Rattle.dwc_rules.specs.Refusals.{Refusal, of_place, missing_file, long_function, long_range, bad_label, lacks_memory, unmapped_register, long_jump, far_memory, bad_path, of_frame}
use Rattle.dwc_native.specs.FrameRefusals.{bad_code_offset, bad_data_offset}
use Rattle.dwc_carried.specs.Forests.{first_refusal}
use Rattle.dwc_cli.specs.Inputs.{BadMap, Loaded, compilation_of, shared_in, bad_map}
use Rattle.dwc_cli.specs.RunStatus.{IsOneOf, refusal_status, refusal_statuses, PassesLimit, LoadedCauses, IsValid}
use Rattle.dwc_cli.specs.Printed.{printed}
use Rattle.dwc_cli.specs.Answers.{first_status, hindrance, IsEmitted, IsCause, CarriesRead, GivesReadText}
use Rattle.dwc_cli.proofs.Statuses.{is_one_of, IsOneOf-from, IsOneOf-more, IsOneOf-other}
use Rattle.std.proofs.lemmas.Bool.{false≢true}
use Rattle.dwc_cli.proofs.SoundText.{plain-sound}
use Rattle.dwc_cli.proofs.Options.{same_some}

none≢some : {A : Type 0} {x : A} → None ≡ Some x → ⊥
none≢some e = cc

none-is_some : {A : Type 0} (o : Option A) → o ≡ None → IsSome o → ⊥
none-is_some None e some = absurd (cc)
none-is_some (Some x) e some = absurd (cc)

-- the statuses of a run whose lines are not carried
abbrev pub carrying_statuses : List ℕ
carrying_statuses = 9 ∷ 10 ∷ 11 ∷ 12 ∷ 13 ∷ 14 ∷ 15 ∷ 16 ∷ 17 ∷ 18 ∷ 19 ∷ 20 ∷ 21 ∷ []

-- ---- by the values of the three hindrances

-- what is said of them, by the status
pub record Hindered (shared : Option (ℕ × ℕ)) (bad : Option BadMap) (refusal : Option Refusal) (status : ℕ) : Type 0 where
  pub shared_only : status ≡ 21 → IsSome shared
  pub shared_always : IsSome shared → IsOneOf (3 ∷ 4 ∷ 9 ∷ 21 ∷ []) status
  pub map_only : status ≡ 13 → IsSome bad
  pub map_always : IsSome bad → IsOneOf (3 ∷ 4 ∷ 9 ∷ 13 ∷ 21 ∷ []) status
  pub refusal_only : IsOneOf refusal_statuses status → option_map refusal_status refusal ≡ Some status
  pub refusal_always : (r : Refusal) → refusal ≡ Some r → IsOneOf (3 ∷ 4 ∷ 9 ∷ 13 ∷ 21 ∷ refusal_status r ∷ []) status
  pub large : status ≡ 20 → option_map refusal_status refusal ≡ Some 20
  pub one_of : IsOneOf carrying_statuses status

-- a status that is not among some
not_one : (statuses : List ℕ) (status : ℕ) → is_one_of statuses status ≡ false → IsOneOf statuses status → ⊥
not_one statuses status none h = IsOneOf-other statuses status status h none refl

-- the status of a refusal is the last of these
is_last : (r : Refusal) → IsOneOf (3 ∷ 4 ∷ 9 ∷ 13 ∷ 21 ∷ refusal_status r ∷ []) (refusal_status r)
is_last r = (5, refusal_status r, omega arith, refl, refl)

-- a refusal is the first hindrance
refused : (r : Refusal) → (refusal_status r ≡ 21 → ⊥) → (refusal_status r ≡ 13 → ⊥) → IsOneOf carrying_statuses (refusal_status r) → Hindered None None (Some r) (refusal_status r)
refused r not_shared not_map one = record {
  shared_only = λ e. absurd (not_shared e);
  shared_always = λ some. absurd (none-is_some {A = ℕ × ℕ} None refl some);
  map_only = λ e. absurd (not_map e);
  map_always = λ some. absurd (none-is_some {A = BadMap} None refl some);
  refusal_only = λ _. refl;
  refusal_always = λ s e. subst (λ x. IsOneOf (3 ∷ 4 ∷ 9 ∷ 13 ∷ 21 ∷ refusal_status x ∷ []) (refusal_status r)) (same_some r s e) (is_last r);
  large = λ e. ap Some e;
  one_of = one;
}

pub hindered : (shared : Option (ℕ × ℕ)) (bad : Option BadMap) (refusal : Option Refusal) (status : ℕ) → first_status shared bad refusal ≡ Some status → Hindered shared bad refusal status
hindered (Some functions) bad refusal status e = subst (Hindered (Some functions) bad refusal) (same_some 21 status e) (record {
  shared_only = λ _. refl;
  shared_always = λ _. IsOneOf-from (3 ∷ 4 ∷ 9 ∷ 21 ∷ []) 21 refl;
  map_only = λ e. absurd (omega (arith, e));
  map_always = λ _. IsOneOf-from (3 ∷ 4 ∷ 9 ∷ 13 ∷ 21 ∷ []) 21 refl;
  refusal_only = λ one. absurd (not_one refusal_statuses 21 refl one);
  refusal_always = λ r _. (4, 21, omega arith, refl, refl);
  large = λ e. absurd (omega (arith, e));
  one_of = IsOneOf-from carrying_statuses 21 refl;
})
hindered None (Some found) refusal status e = subst (Hindered None (Some found) refusal) (same_some 13 status e) (record {
  shared_only = λ e. absurd (omega (arith, e));
  shared_always = λ some. absurd (none-is_some {A = ℕ × ℕ} None refl some);
  map_only = λ _. refl;
  map_always = λ _. IsOneOf-from (3 ∷ 4 ∷ 9 ∷ 13 ∷ 21 ∷ []) 13 refl;
  refusal_only = λ one. absurd (not_one refusal_statuses 13 refl one);
  refusal_always = λ r _. (3, 13, omega arith, refl, refl);
  large = λ e. absurd (omega (arith, e));
  one_of = IsOneOf-from carrying_statuses 13 refl;
})
hindered None None (Some (of_place (unreadable what section offset))) status e = subst (Hindered None None (Some (of_place (unreadable what section offset)))) (same_some 10 status e) (refused (of_place (unreadable what section offset)) (λ e. omega (arith, e)) (λ e. omega (arith, e)) (IsOneOf-from carrying_statuses 10 refl))
hindered None None (Some (of_place (unsupported kind offset))) status e = subst (Hindered None None (Some (of_place (unsupported kind offset)))) (same_some 11 status e) (refused (of_place (unsupported kind offset)) (λ e. omega (arith, e)) (λ e. omega (arith, e)) (IsOneOf-from carrying_statuses 11 refl))
hindered None None (Some (missing_file offset)) status e = subst (Hindered None None (Some (missing_file offset))) (same_some 12 status e) (refused (missing_file offset) (λ e. omega (arith, e)) (λ e. omega (arith, e)) (IsOneOf-from carrying_statuses 12 refl))
hindered None None (Some long_function) status e = subst (Hindered None None (Some long_function)) (same_some 20 status e) (refused long_function (λ e. omega (arith, e)) (λ e. omega (arith, e)) (IsOneOf-from carrying_statuses 20 refl))
hindered None None (Some long_range) status e = subst (Hindered None None (Some long_range)) (same_some 20 status e) (refused long_range (λ e. omega (arith, e)) (λ e. omega (arith, e)) (IsOneOf-from carrying_statuses 20 refl))
hindered None None (Some (bad_label label)) status e = subst (Hindered None None (Some (bad_label label))) (same_some 14 status e) (refused (bad_label label) (λ e. omega (arith, e)) (λ e. omega (arith, e)) (IsOneOf-from carrying_statuses 14 refl))
hindered None None (Some (lacks_memory m)) status e = subst (Hindered None None (Some (lacks_memory m))) (same_some 15 status e) (refused (lacks_memory m) (λ e. omega (arith, e)) (λ e. omega (arith, e)) (IsOneOf-from carrying_statuses 15 refl))
hindered None None (Some (unmapped_register register)) status e = subst (Hindered None None (Some (unmapped_register register))) (same_some 16 status e) (refused (unmapped_register register) (λ e. omega (arith, e)) (λ e. omega (arith, e)) (IsOneOf-from carrying_statuses 16 refl))
hindered None None (Some long_jump) status e = subst (Hindered None None (Some long_jump)) (same_some 20 status e) (refused long_jump (λ e. omega (arith, e)) (λ e. omega (arith, e)) (IsOneOf-from carrying_statuses 20 refl))
hindered None None (Some far_memory) status e = subst (Hindered None None (Some far_memory)) (same_some 20 status e) (refused far_memory (λ e. omega (arith, e)) (λ e. omega (arith, e)) (IsOneOf-from carrying_statuses 20 refl))
hindered None None (Some bad_path) status e = subst (Hindered None None (Some bad_path)) (same_some 19 status e) (refused bad_path (λ e. omega (arith, e)) (λ e. omega (arith, e)) (IsOneOf-from carrying_statuses 19 refl))
hindered None None (Some (of_frame (bad_code_offset f))) status e = subst (Hindered None None (Some (of_frame (bad_code_offset f)))) (same_some 17 status e) (refused (of_frame (bad_code_offset f)) (λ e. omega (arith, e)) (λ e. omega (arith, e)) (IsOneOf-from carrying_statuses 17 refl))
hindered None None (Some (of_frame (bad_data_offset f))) status e = subst (Hindered None None (Some (of_frame (bad_data_offset f)))) (same_some 18 status e) (refused (of_frame (bad_data_offset f)) (λ e. omega (arith, e)) (λ e. omega (arith, e)) (IsOneOf-from carrying_statuses 18 refl))
hindered None None None status e = absurd (none≢some e)

-- nothing hinders
pub record Unhindered (shared : Option (ℕ × ℕ)) (bad : Option BadMap) (refusal : Option Refusal) : Type 0 where
  pub distinct : shared ≡ None
  pub maps : bad ≡ None
  pub accepted : refusal ≡ None

pub unhindered : (shared : Option (ℕ × ℕ)) (bad : Option BadMap) (refusal : Option Refusal) → first_status shared bad refusal ≡ None → Unhindered shared bad refusal
unhindered (Some functions) bad refusal e = absurd (none≢some (sym e))
unhindered None (Some found) refusal e = absurd (none≢some (sym e))
unhindered None None (Some r) e = absurd (none≢some (sym e))
unhindered None None None e = record { distinct = refl; maps = refl; accepted = refl }

-- ---- of what was read

-- what is said of what was read, by the status
pub record Said (read : Loaded) (status : ℕ) : Type 0 where
  pub causes : LoadedCauses read status
  pub complete : GivesReadText read status

-- the statuses of hindrances, but for 20
abbrev hindering_statuses : List ℕ
hindering_statuses = 10 ∷ 11 ∷ 12 ∷ 13 ∷ 14 ∷ 15 ∷ 16 ∷ 17 ∷ 18 ∷ 19 ∷ 21 ∷ []

-- of a status that is none of these, where nothing hinders
LoadedCauses-unhindered : (read : Loaded) (status : ℕ) → hindrance read ≡ None → is_one_of hindering_statuses status ≡ false → (status ≡ 20 → PassesLimit (compilation_of read)) → LoadedCauses read status
LoadedCauses-unhindered read status none other large =
    let nothing = unhindered (shared_in read) (bad_map read) (first_refusal (compilation_of read)) none in
    let apart = λ (s : ℕ) (among : is_one_of hindering_statuses s ≡ true) (same : status ≡ s). false≢true (sym other ∙ ap (is_one_of hindering_statuses) same ∙ among) in
    record {
      shared = record { only = λ e. absurd (apart 21 refl e); always = λ some. absurd (none-is_some (shared_in read) nothing.distinct some) };
      address_map = record { only = λ e. absurd (apart 13 refl e); always = λ some. absurd (none-is_some (bad_map read) nothing.maps some) };
      refused = record {
        only = λ one. absurd (not_one hindering_statuses status other (IsOneOf-more refusal_statuses hindering_statuses status refl one));
        always = λ r e. absurd (none≢some (sym nothing.accepted ∙ e));
      };
      too_large = λ e. inr (nothing.accepted, large e);
    }

-- of want of memory
pub LoadedCauses-memory : (read : Loaded) → LoadedCauses read 9
LoadedCauses-memory read = record {
  shared = record { only = λ e. absurd (omega (arith, e)); always = λ _. IsOneOf-from (3 ∷ 4 ∷ 9 ∷ 21 ∷ []) 9 refl };
  address_map = record { only = λ e. absurd (omega (arith, e)); always = λ _. IsOneOf-from (3 ∷ 4 ∷ 9 ∷ 13 ∷ 21 ∷ []) 9 refl };
  refused = record { only = λ one. absurd (not_one refusal_statuses 9 refl one); always = λ r _. (2, 9, omega arith, refl, refl) };
  too_large = λ e. absurd (omega (arith, e));
}

pub said-memory : (read : Loaded) → Said read 9
said-memory read = record { causes = LoadedCauses-memory read; complete = λ _. IsOneOf-from (0 ∷ 9 ∷ []) 9 refl }

-- a valid input has no hindrance
valid-unhindered : (read : Loaded) → IsValid read → hindrance read ≡ None
valid-unhindered read valid = rw (valid.distinct, valid.maps, valid.accepted) refl

said-hindered : (read : Loaded) (status : ℕ) → hindrance read ≡ Some status → Said read status
said-hindered read status is =
    let h = hindered (shared_in read) (bad_map read) (first_refusal (compilation_of read)) status is in
    record {
      causes = record {
        shared = record { only = h.shared_only; always = h.shared_always };
        address_map = record { only = h.map_only; always = h.map_always };
        refused = record { only = h.refusal_only; always = h.refusal_always };
        too_large = λ e. inl (h.large e);
      };
      complete = λ valid. absurd (none≢some (sym (valid-unhindered read valid) ∙ is));
    }

-- a valid input passes no limit
valid-within : (read : Loaded) → PassesLimit (compilation_of read) → IsValid read → ⊥
valid-within read (inl (name, large)) valid = omega (arith, large, valid.small name)
valid-within read (inr long) valid = false≢true (sym long ∙ valid.short)

said-large : (read : Loaded) → hindrance read ≡ None → PassesLimit (compilation_of read) → Said read 20
said-large read none passes = record {
  causes = LoadedCauses-unhindered read 20 none refl (λ _. passes);
  complete = λ valid. absurd (valid-within read passes valid);
}

-- where no sections are emitted
pub said-cause : (read : Loaded) (status : ℕ) → IsCause read status → Said read status
said-cause read status (inl memory) = subst (Said read) (sym memory) (said-memory read)
said-cause read status (inr (inl is)) = said-hindered read status is
said-cause read status (inr (inr (is, none, passes))) = subst (Said read) (sym is) (said-large read none passes)

-- where sections are emitted
pub said-emitted : (read : Loaded) (sections : List OutputSection) → IsEmitted read sections → Said read 0
said-emitted read sections h = record {
  causes = LoadedCauses-unhindered read 0 h.unhindered refl (λ e. absurd (omega (arith, e)));
  complete = λ _. IsOneOf-from (0 ∷ 9 ∷ []) 0 refl;
}

-- and their text
pub carries-emitted : (read : Loaded) (sections : List OutputSection) → IsEmitted read sections → CarriesRead read (printed sections)
carries-emitted read sections h = record {
  accepted = (unhindered (shared_in read) (bad_map read) (first_refusal (compilation_of read)) h.unhindered).accepted;
  sections = sections;
  plain = plain-sound (compilation_of read).order sections h.whole.sound;
  carried = h.carried;
  short = h.short;
  whole = h.whole;
  text_is = refl;
}

-- the status of a cause
pub cause-status : (read : Loaded) (status : ℕ) → IsCause read status → IsOneOf carrying_statuses status
cause-status read status (inl memory) = subst (IsOneOf carrying_statuses) (sym memory) (IsOneOf-from carrying_statuses 9 refl)
cause-status read status (inr (inl is)) = (hindered (shared_in read) (bad_map read) (first_refusal (compilation_of read)) status is).one_of
cause-status read status (inr (inr (is, none, passes))) = subst (IsOneOf carrying_statuses) (sym is) (IsOneOf-from carrying_statuses 20 refl)
