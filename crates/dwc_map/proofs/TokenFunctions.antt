-- The object of a function, as its members are read one after another.
use Rattle.std.proofs.Common.{◌≡◌, ℕ, ◌-◌, ◌<◌, List, ◌∷◌, length, false, Option, Some, None, bytes_eq, codes, refl, sym, ap, ◌∙◌, subst, true≢false}
use Rattle.std.specs.Prelude.{◌≢◌, IfSome}
use Rattle.std.specs.FinMap as finite
use Rattle.std.proofs.lemmas.Slice.Eq.{bytes_eq-Decides}
use Rattle.json.specs.Token.{Token, begin_object}
use Rattle.json.specs.Json.{read_key}
use Rattle.serde_json.specs.Data.{Data, object, Members, no_members, put}
use Rattle.serde_json.specs.Find.{get_member}
use Rattle.serde_json.proofs.Views.{get_member-put, get_member-put_other}
use Rattle.dwc_native.specs.CallFrames.{FrameDescription}
use Rattle.dwc_isa.specs.ValueLabels.{LabelledRanges}
use Rattle.dwc_map.specs.ByTokens.{AreSameFields, Puts, Tells, TellsFunction}
use Rattle.dwc_map.specs.MapFile.{MapFunction, entries_of, function_by, function_in, labels_of, map_function_of}
use Rattle.dwc_map.specs.MapFrames.{frame_in, frame_of}
use Rattle.dwc_map.specs.MapValues.{◌>>=◌, nullable, value_or, with_default}
use Rattle.dwc_map.proofs.TokenMembers.{FieldsAlong, fields-next, fields-over, fields-start, object-read, put-alike}

apart : (xs ys : List ℕ) → bytes_eq xs ys ≡ false → xs ≢ ys
apart xs ys differ same = true≢false (sym ((bytes_eq-Decides xs ys).1 same) ∙ differ)

-- what is told of the member of each of three names, or of its absence
abbrev EntriesAre : Option (List (ℕ × Option ℕ)) → Option Data → Type 0
EntriesAre entries found = IfSome entries (λ x. (found >>= entries_of) ≡ Some x)

abbrev LabelsAre : LabelledRanges → Option Data → Type 0
LabelsAre labels found = value_or finite.empty labels_of found ≡ Some labels

abbrev FrameIs : Option FrameDescription → Option Data → Type 0
FrameIs frame found = value_or None (nullable frame_of) found ≡ Some frame

-- what is told of the members that were read
pub record IsTold (all fields : Members) (entries : Option (List (ℕ × Option ℕ))) (labels : LabelledRanges) (frame : Option FrameDescription) : Type 0 where
  pub same : AreSameFields all fields
  pub entries_are : EntriesAre entries (get_member (codes "map") all)
  pub labels_are : LabelsAre labels (get_member (codes "labels") all)
  pub frame_is : FrameIs frame (get_member (codes "frame") all)

-- Members were read, the object has them and those to come, and some is told of them.
pub record FunctionAlong (depth : ℕ) (start now : List Token) (fields : Members) (entries : Option (List (ℕ × Option ℕ))) (labels : LabelledRanges) (frame : Option FrameDescription) : Type 0 where
  pub all : Members
  pub along : FieldsAlong depth start now all
  pub told : IsTold all fields entries labels frame

pub function-start : (depth : ℕ) (start : List Token) → FunctionAlong depth start start no_members None finite.empty None
function-start depth start = record { all = no_members; along = fields-start depth start; told = record { same = λ other a b c. refl; entries_are = tt; labels_are = refl; frame_is = refl } }

module _ (P : Option Data → Type 0) (k : List ℕ) (d : Data) (all : Members) where
  -- what holds of a value holds of the member that it is put at
  made : P (Some d) → P (get_member k (put k d all))
  made h = subst P (sym (get_member-put k d all)) h

  -- and what holds of another member stays
  kept : (other : List ℕ) → other ≢ k → P (get_member other all) → P (get_member other (put k d all))
  kept other differ h = subst P (sym (get_member-put_other other k d all differ)) h

module _ (all fields : Members) (entries : Option (List (ℕ × Option ℕ))) (labels : LabelledRanges) (frame : Option FrameDescription) (t : IsTold all fields entries labels frame) (d : Data) where
  told-entries : (x : List (ℕ × Option ℕ)) → entries_of d ≡ Some x → IsTold (put (codes "map") d all) fields (Some x) labels frame
  told-entries x is = record {
    same = λ other a b c. get_member-put_other other (codes "map") d all a ∙ t.same other a b c;
    entries_are = made (EntriesAre (Some x)) (codes "map") d all is;
    labels_are = kept (LabelsAre labels) (codes "map") d all (codes "labels") (apart (codes "labels") (codes "map") refl) t.labels_are;
    frame_is = kept (FrameIs frame) (codes "map") d all (codes "frame") (apart (codes "frame") (codes "map") refl) t.frame_is;
  }

  told-labels : (x : LabelledRanges) → labels_of d ≡ Some x → IsTold (put (codes "labels") d all) fields entries x frame
  told-labels x is = record {
    same = λ other a b c. get_member-put_other other (codes "labels") d all b ∙ t.same other a b c;
    entries_are = kept (EntriesAre entries) (codes "labels") d all (codes "map") (apart (codes "map") (codes "labels") refl) t.entries_are;
    labels_are = made (LabelsAre x) (codes "labels") d all is;
    frame_is = kept (FrameIs frame) (codes "labels") d all (codes "frame") (apart (codes "frame") (codes "labels") refl) t.frame_is;
  }

  told-frame : (x : Option FrameDescription) → nullable frame_of d ≡ Some x → IsTold (put (codes "frame") d all) fields entries labels x
  told-frame x is = record {
    same = λ other a b c. get_member-put_other other (codes "frame") d all c ∙ t.same other a b c;
    entries_are = kept (EntriesAre entries) (codes "frame") d all (codes "map") (apart (codes "map") (codes "frame") refl) t.entries_are;
    labels_are = kept (LabelsAre labels) (codes "frame") d all (codes "labels") (apart (codes "labels") (codes "frame") refl) t.labels_are;
    frame_is = made (FrameIs x) (codes "frame") d all is;
  }

  told-field : (k : List ℕ) → k ≢ codes "map" → k ≢ codes "labels" → k ≢ codes "frame" → IsTold (put k d all) (put k d fields) entries labels frame
  told-field k a b c = record {
    same = λ other p q r. put-alike other k d all fields (t.same other p q r);
    entries_are = kept (EntriesAre entries) k d all (codes "map") (λ e. a (sym e)) t.entries_are;
    labels_are = kept (LabelsAre labels) k d all (codes "labels") (λ e. b (sym e)) t.labels_are;
    frame_is = kept (FrameIs frame) k d all (codes "frame") (λ e. c (sym e)) t.frame_is;
  }

module _ (depth : ℕ) (start now behind next : List Token) (fields : Members) (entries : Option (List (ℕ × Option ℕ))) (labels : LabelledRanges) (frame : Option FrameDescription) (less : length next < length now) (a : FunctionAlong depth start now fields entries labels frame) where
  -- The next member is that of the entries, of the labels, or of the frame.
  pub function-entries : (x : List (ℕ × Option ℕ)) → read_key now ≡ Some (Some (codes "map"), behind) → Tells depth entries_of behind x next → FunctionAlong depth start next fields (Some x) labels frame
  function-entries x key t = record {
    all = put (codes "map") t.found a.all;
    along = fields-next depth start now behind next (codes "map") a.all (put (codes "map") t.found a.all) key (record { found = t.found; read = t.read; is = refl }) less a.along;
    told = told-entries a.all fields entries labels frame a.told t.found x t.is;
  }

  pub function-labels : (x : LabelledRanges) → read_key now ≡ Some (Some (codes "labels"), behind) → Tells depth labels_of behind x next → FunctionAlong depth start next fields entries x frame
  function-labels x key t = record {
    all = put (codes "labels") t.found a.all;
    along = fields-next depth start now behind next (codes "labels") a.all (put (codes "labels") t.found a.all) key (record { found = t.found; read = t.read; is = refl }) less a.along;
    told = told-labels a.all fields entries labels frame a.told t.found x t.is;
  }

  pub function-frame : (x : Option FrameDescription) → read_key now ≡ Some (Some (codes "frame"), behind) → Tells depth (nullable frame_of) behind x next → FunctionAlong depth start next fields entries labels x
  function-frame x key t = record {
    all = put (codes "frame") t.found a.all;
    along = fields-next depth start now behind next (codes "frame") a.all (put (codes "frame") t.found a.all) key (record { found = t.found; read = t.read; is = refl }) less a.along;
    told = told-frame a.all fields entries labels frame a.told t.found x t.is;
  }

  -- It is another.
  pub function-field : (k : List ℕ) (more : Members) → read_key now ≡ Some (Some k, behind) → k ≢ codes "map" → k ≢ codes "labels" → k ≢ codes "frame" → Puts depth k behind fields more next → FunctionAlong depth start next more entries labels frame
  function-field k more key p q r t = record {
    all = put k t.found a.all;
    along = fields-next depth start now behind next k a.all (put k t.found a.all) key (record { found = t.found; read = t.read; is = refl }) less a.along;
    told = subst (λ ms. IsTold (put k t.found a.all) ms entries labels frame) (sym t.is) (told-field a.all fields entries labels frame a.told t.found k p q r);
  }

-- There is none more.
pub function-over : (depth : ℕ) (start now rest : List Token) (fields : Members) (entries : List (ℕ × Option ℕ)) (labels : LabelledRanges) (frame : Option FrameDescription) → read_key now ≡ Some (None, rest) → FunctionAlong depth start now fields (Some entries) labels frame
    → TellsFunction depth start fields entries labels frame rest
function-over depth start now rest fields entries labels frame over a = record {
  all = a.all;
  read = fields-over depth start now rest a.all over a.along;
  same = a.told.same;
  entries_are = a.told.entries_are;
  labels_are = a.told.labels_are;
  frame_is = a.told.frame_is;
}

-- ---- the whole

function-same : (es : List (ℕ × Option ℕ)) (ls : LabelledRanges) (f : Option FrameDescription) (ms ns : Members) → AreSameFields ms ns → function_by es ls f ms ≡ function_by es ls f ns
function-same es ls f ms ns same =
    let at : (name : List ℕ) → bytes_eq name (codes "map") ≡ false → bytes_eq name (codes "labels") ≡ false → bytes_eq name (codes "frame") ≡ false → get_member name ms ≡ get_member name ns = λ name a b c. same name (apart name (codes "map") a) (apart name (codes "labels") b) (apart name (codes "frame") c) in
    rw (at (codes "symbol") refl refl refl, at (codes "start") refl refl refl, at (codes "end") refl refl refl, at (codes "body_offset") refl refl refl, at (codes "body_len") refl refl refl)

function-read : (es : List (ℕ × Option ℕ)) (ls : LabelledRanges) (f : Option FrameDescription) (ms : Members) → with_default (codes "labels") finite.empty labels_of ms ≡ Some ls → frame_in ms ≡ Some f → function_in es ms ≡ function_by es ls f ms
function-read es ls f ms labels frame = rw (labels, frame)

pub function-told : (depth : ℕ) (old start rest : List Token) (fields : Members) (es : List (ℕ × Option ℕ)) (ls : LabelledRanges) (f : Option FrameDescription) (y : MapFunction) → 0 < depth → old ≡ begin_object ∷ start → TellsFunction (depth - 1) start fields es ls f rest
    → function_by es ls f fields ≡ Some y → Tells depth map_function_of old y rest
unfolding map_function_of
function-told depth old start rest fields es ls f y some opens t is = record {
  found = object t.all;
  read = object-read depth old start rest t.all some opens t.read;
  is = ap (λ o. o >>= λ entries. function_in entries t.all) t.entries_are ∙ function-read es ls f t.all t.labels_are t.frame_is ∙ function-same es ls f t.all fields t.same ∙ is;
}
