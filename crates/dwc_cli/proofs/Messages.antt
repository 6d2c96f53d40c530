-- What the line of a run says, at each place where it ends.
use Rattle.std.proofs.Common.{◌≡◌, ℕ, List, [], ◌∷◌, Bool, true, false, if◌then◌else◌, Some, None, refl, sym, ap, subst, arith}
use Rattle.std.specs.Prelude.{Any, unwrap_or, option_map}
use Rattle.std.specs.List.{list_all}
use Rattle.dwc_cli.specs.Calls.{Call, last_opened}
use Rattle.dwc_cli.specs.declared.failure.Failure.{Failure}
use Rattle.dwc_cli.specs.declared.failure.Failure.TheVariants.{Usage, ReadFault, TooLong, MalformedMap, WriteFault, OutOfMemory, Refused}
use Rattle.dwc_cli.specs.Printed.{is_line}
use Rattle.dwc_cli.specs.Inputs.{Paths, is_path, paths_of, all_paths}
use Rattle.dwc_cli.specs.Failures.{usage_message, fault_message, length_message, write_message, failure_status, failure_message, IsOnOneLine}
use Rattle.dwc_cli.specs.Answers.{IsMessage, IsReadingStatus, reading_statuses, IsTextStatus, text_statuses}
use Rattle.dwc_cli.proofs.Statuses.{IsOneOf-other}

none_is_no_value : {A : Type 0} (x : A) → None ≡ Some x → ⊥
none_is_no_value x e = cc

-- the paths are the words
words_are_paths : (words : List (List ℕ)) (p : Paths) → paths_of words ≡ Some p → all_paths p ≡ words
words_are_paths [] p e = absurd (none_is_no_value p e)
words_are_paths (m ∷ []) p e = absurd (none_is_no_value p e)
words_are_paths (m ∷ w ∷ ws) p e = go (list_all is_path (m ∷ w ∷ ws)) e
  where
    go : (b : Bool) → (if b then Some (record { map_path = m; module_paths = w ∷ ws }) else None) ≡ Some p → all_paths p ≡ m ∷ w ∷ ws
    go true e = ap (λ o. all_paths (unwrap_or o p)) (sym e)
    go false e = absurd (none_is_no_value p e)

-- the message of a failure that names no path
pub is_line-message : (failure : Failure) → IsOnOneLine failure → (failure_status failure ≡ 3 → ⊥) → (failure_status failure ≡ 4 → ⊥) → is_line (failure_message failure) ≡ true
is_line-message (ReadFault path) one not_three not_four = absurd (not_three refl)
is_line-message (TooLong path) one not_three not_four = absurd (not_four refl)
is_line-message Usage one not_three not_four = one
is_line-message MalformedMap one not_three not_four = one
is_line-message WriteFault one not_three not_four = one
is_line-message OutOfMemory one not_three not_four = one
is_line-message (Refused status refusal) one not_three not_four = one

pub IsMessage-usage : (words : List (List ℕ)) (asked : List Call) → IsMessage words asked 2 usage_message
IsMessage-usage words asked = record {
  usage = λ _. refl;
  fault = λ e. absurd (omega (arith, e));
  too_long = λ e. absurd (omega (arith, e));
  fault_named = λ e. absurd (omega (arith, e));
  length_named = λ e. absurd (omega (arith, e));
  write = λ e. absurd (omega (arith, e));
  line = λ _ _. refl;
}

pub IsMessage-write : (words : List (List ℕ)) (asked : List Call) → IsMessage words asked 8 write_message
IsMessage-write words asked = record {
  usage = λ e. absurd (omega (arith, e));
  fault = λ e. absurd (omega (arith, e));
  too_long = λ e. absurd (omega (arith, e));
  fault_named = λ e. absurd (omega (arith, e));
  length_named = λ e. absurd (omega (arith, e));
  write = λ _. refl;
  line = λ _ _. refl;
}

-- of files that cannot be read
pub IsMessage-reading : (words : List (List ℕ)) (asked : List Call) (p : Paths) (failure : Failure) → paths_of words ≡ Some p → IsOnOneLine failure → IsReadingStatus (failure_status failure) → (failure_status failure ≡ 3 → Any (λ path. failure_message failure ≡ fault_message path) (all_paths p)) → (failure_status failure ≡ 4 → Any (λ path. failure_message failure ≡ length_message path) (all_paths p)) → (failure_status failure ≡ 3 → option_map fault_message (last_opened asked) ≡ Some (failure_message failure)) → (failure_status failure ≡ 4 → option_map length_message (last_opened asked) ≡ Some (failure_message failure)) → IsMessage words asked (failure_status failure) (failure_message failure)
IsMessage-reading words asked p failure is_p one_line one fault too_long fault_named length_named = record {
  usage = λ e. absurd (IsOneOf-other reading_statuses (failure_status failure) 2 one refl e);
  fault = λ e. subst (Any (λ path. failure_message failure ≡ fault_message path)) (words_are_paths words p is_p) (fault e);
  too_long = λ e. subst (Any (λ path. failure_message failure ≡ length_message path)) (words_are_paths words p is_p) (too_long e);
  fault_named = fault_named;
  length_named = length_named;
  write = λ e. absurd (IsOneOf-other reading_statuses (failure_status failure) 8 one refl e);
  line = is_line-message failure one_line;
}

-- of an input that has no text
pub IsMessage-text : (words : List (List ℕ)) (asked : List Call) (failure : Failure) → IsOnOneLine failure → IsTextStatus (failure_status failure) → IsMessage words asked (failure_status failure) (failure_message failure)
IsMessage-text words asked failure one_line one = record {
  usage = λ e. absurd (IsOneOf-other text_statuses (failure_status failure) 2 one refl e);
  fault = λ e. absurd (IsOneOf-other text_statuses (failure_status failure) 3 one refl e);
  too_long = λ e. absurd (IsOneOf-other text_statuses (failure_status failure) 4 one refl e);
  fault_named = λ e. absurd (IsOneOf-other text_statuses (failure_status failure) 3 one refl e);
  length_named = λ e. absurd (IsOneOf-other text_statuses (failure_status failure) 4 one refl e);
  write = λ e. absurd (IsOneOf-other text_statuses (failure_status failure) 8 one refl e);
  line = is_line-message failure one_line;
}
