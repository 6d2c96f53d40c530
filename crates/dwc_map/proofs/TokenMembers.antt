-- An object, as its members are read one after another: one of a name is of a kind, and the others are put among fields.
use Rattle.std.proofs.Common.{◌≡◌, ℕ, ◌-◌, ◌<◌, ◌≤◌, List, ◌∷◌, length, Option, Some, None, Bool, true, false, bytes_eq, option_map, refl, sym, ap, ◌∙◌, subst, arith}
use Rattle.std.proofs.lemmas.Slice.Eq.{bytes_eq-Decides}
use Rattle.std.specs.Prelude.{◌≢◌, IfSome}
use Rattle.json.specs.Token.{Token, begin_object}
use Rattle.json.specs.Json as json
use Rattle.json.specs.Json.{parse_map, read_key, members, value}
use Rattle.json.proofs.Grammar.{members_end, members_more, value-begin_object}
use Rattle.serde_json.specs.Data.{Data, object, Members, no_members, put}
use Rattle.serde_json.specs.Find.{get_member}
use Rattle.serde_json.specs.Read.{of_json, of_members, converted}
use Rattle.serde_json.proofs.Views.{get_member-put, get_member-put_other}
use Rattle.dwc_map.specs.ByTokens.{AreSameBut, Puts, Tells, TellsMembers}
use Rattle.dwc_map.specs.MapValues.{◌>>=◌, required}
use Rattle.dwc_map.proofs.TokenLists.{converted_some}

abbrev pub after : Members → Option (json.Members × List Token) → Option (Members × List Token)
after found o = converted (λ ms. of_members ms found) o

pub with-member : (k : List ℕ) (j : json.Json) (d : Data) (found : Members) → of_json j ≡ Some d → (o : Option (json.Members × List Token)) → after found (parse_map (json.member k j) o) ≡ after (put k d found) o
with-member k j d found is None = refl
with-member k j d found is (Some p) = rw is

-- what is put at a name in both of two objects leaves them alike at another
pub put-alike : (other k : List ℕ) (d : Data) (ms ns : Members) → get_member other ms ≡ get_member other ns → get_member other (put k d ms) ≡ get_member other (put k d ns)
put-alike other k d ms ns same = go (bytes_eq other k) refl
  where
    go : (b : Bool) → bytes_eq other k ≡ b → get_member other (put k d ms) ≡ get_member other (put k d ns)
    go true is =
        let e : other ≡ k = (bytes_eq-Decides other k).0 is in
        ap (λ q. get_member q (put k d ms)) e ∙ get_member-put k d ms ∙ sym (get_member-put k d ns) ∙ ap (λ q. get_member q (put k d ns)) (sym e)
    go false is =
        let differ : other ≢ k = λ e. absurd (cc-true (sym is ∙ (bytes_eq-Decides other k).1 e)) in
        get_member-put_other other k d ms differ ∙ same ∙ sym (get_member-put_other other k d ns differ)
      where
        cc-true : ◌≡◌ {A = Bool} false true → ⊥
        cc-true h = absurd (cc)

module _ {A : Type 0} (name : List ℕ) (kind : Data → Option A) (depth : ℕ) where
  -- Members were read, and the object has them and those to come.
  pub record MembersAlong (start now : List Token) (fields : Members) (told : Option A) : Type 0 where
    pub most : ℕ
    pub enough : length now ≤ most
    pub later : length now ≤ length start
    pub found : Members
    pub read : after no_members (members (value depth) (length start) start) ≡ after found (members (value depth) most now)
    pub same : AreSameBut name found fields
    pub is : IfSome told (λ x. required name kind found ≡ Some x)

  pub members-start : (start : List Token) → MembersAlong start start no_members None
  members-start start = record { most = length start; enough = omega arith; later = omega arith; found = no_members; read = refl; same = λ other apart. refl; is = tt }

  turn : (start now behind next : List Token) (k : List ℕ) (fields : Members) (told : Option A) (d : Data) (a : MembersAlong start now fields told) → read_key now ≡ Some (Some k, behind) → converted of_json (value depth behind) ≡ Some (d, next) → length next < length now
      → after a.found (members (value depth) a.most now) ≡ after (put k d a.found) (members (value depth) (a.most - 1) next)
  turn start now behind next k fields told d a key read less =
      let j = converted_some of_json (value depth behind) d next read in
      let some : 0 < a.most = omega (arith, less, a.enough) in
      ap (after a.found) (members_more (value depth) a.most k now behind next j.0 some key j.1) ∙ with-member k j.0 d a.found j.2 (members (value depth) (a.most - 1) next)

  -- The next one is that of the name.
  pub members-told : (start now behind next : List Token) (fields : Members) (told : Option A) (x : A) → read_key now ≡ Some (Some name, behind) → Tells depth kind behind x next → length next < length now → MembersAlong start now fields told → MembersAlong start next fields (Some x)
  members-told start now behind next fields told x key t less a = record {
    most = a.most - 1;
    enough = omega (arith, less, a.enough);
    later = omega (arith, less, a.later);
    found = put name t.found a.found;
    read = a.read ∙ turn start now behind next name fields told t.found a key t.read less;
    same = λ other apart. get_member-put_other other name t.found a.found apart ∙ a.same other apart;
    is = ap (λ o. o >>= kind) (get_member-put name t.found a.found) ∙ t.is;
  }

  kept : (told : Option A) (before after : Members) → get_member name after ≡ get_member name before → IfSome told (λ x. required name kind before ≡ Some x) → IfSome told (λ x. required name kind after ≡ Some x)
  kept None before after e h = tt
  kept (Some x) before after e h = ap (λ o. o >>= kind) e ∙ h

  put-same : (k : List ℕ) (d : Data) (ms ns : Members) → AreSameBut name ms ns → AreSameBut name (put k d ms) (put k d ns)
  put-same k d ms ns same other apart = put-alike other k d ms ns (same other apart)

  -- The next one is another.
  pub members-field : (start now behind next : List Token) (k : List ℕ) (fields more : Members) (told : Option A) → read_key now ≡ Some (Some k, behind) → k ≢ name → Puts depth k behind fields more next → length next < length now → MembersAlong start now fields told → MembersAlong start next more told
  members-field start now behind next k fields more told key apart t less a = record {
    most = a.most - 1;
    enough = omega (arith, less, a.enough);
    later = omega (arith, less, a.later);
    found = put k t.found a.found;
    read = a.read ∙ turn start now behind next k fields told t.found a key t.read less;
    same = subst (AreSameBut name (put k t.found a.found)) (sym t.is) (put-same k t.found a.found fields a.same);
    is = kept told a.found (put k t.found a.found) (get_member-put_other name k t.found a.found (λ e. apart (sym e))) a.is;
  }

  -- There is none more.
  pub members-over : (start now rest : List Token) (fields : Members) (x : A) → read_key now ≡ Some (None, rest) → MembersAlong start now fields (Some x) → TellsMembers depth name kind start fields x rest
  members-over start now rest fields x over a = record { all = a.found; read = a.read ∙ ap (after a.found) (members_end (value depth) a.most now rest a.enough over); same = a.same; is = a.is }

-- What is read of the members behind the brace of an object is told by the object, where that is of a kind by them.
pub object-told : {A X : Type 0} (name : List ℕ) (kind : Data → Option A) (whole : Data → Option X) (depth : ℕ) (old start rest : List Token) (fields : Members) (x : A) (y : X) → 0 < depth → old ≡ begin_object ∷ start → (t : TellsMembers (depth - 1) name kind start fields x rest) → whole (object t.all) ≡ Some y → Tells depth whole old y rest
object-told name kind whole depth old start rest fields x y some opens t is =
    let js = converted_some (λ ms. of_members ms no_members) (members (value (depth - 1)) (length start) start) t.all rest t.read in
    let first : value depth old ≡ Some (json.object js.0, rest) = ap (value depth) opens ∙ value-begin_object depth start some ∙ ap (parse_map json.object) js.1 in
    record { found = object t.all; read = ap (converted of_json) first ∙ ap (λ o. option_map (λ d. (d, rest)) (option_map object o)) js.2; is = is }

-- Members were read and put among fields, and the object has these and those to come.
pub record FieldsAlong (depth : ℕ) (start now : List Token) (fields : Members) : Type 0 where
  pub most : ℕ
  pub enough : length now ≤ most
  pub later : length now ≤ length start
  pub read : after no_members (members (value depth) (length start) start) ≡ after fields (members (value depth) most now)

module _ (depth : ℕ) where
  pub fields-start : (start : List Token) → FieldsAlong depth start start no_members
  fields-start start = record { most = length start; enough = omega arith; later = omega arith; read = refl }

  pub fields-next : (start now behind next : List Token) (k : List ℕ) (fields more : Members) → read_key now ≡ Some (Some k, behind) → Puts depth k behind fields more next → length next < length now → FieldsAlong depth start now fields → FieldsAlong depth start next more
  fields-next start now behind next k fields more key t less a =
      let j = converted_some of_json (value depth behind) t.found next t.read in
      let some : 0 < a.most = omega (arith, less, a.enough) in
      record {
        most = a.most - 1;
        enough = omega (arith, less, a.enough);
        later = omega (arith, less, a.later);
        read = a.read ∙ ap (after fields) (members_more (value depth) a.most k now behind next j.0 some key j.1) ∙ with-member k j.0 t.found fields j.2 (members (value depth) (a.most - 1) next)
            ∙ ap (λ ms. after ms (members (value depth) (a.most - 1) next)) (sym t.is);
      }

  pub fields-over : (start now rest : List Token) (fields : Members) → read_key now ≡ Some (None, rest) → FieldsAlong depth start now fields → converted (λ ms. of_members ms no_members) (members (value depth) (length start) start) ≡ Some (fields, rest)
  fields-over start now rest fields over a = a.read ∙ ap (after fields) (members_end (value depth) a.most now rest a.enough over)

pub object-read : (depth : ℕ) (old start rest : List Token) (ms : Members) → 0 < depth → old ≡ begin_object ∷ start → converted (λ xs. of_members xs no_members) (members (value (depth - 1)) (length start) start) ≡ Some (ms, rest) → converted of_json (value depth old) ≡ Some (object ms, rest)
object-read depth old start rest ms some opens read =
    let js = converted_some (λ xs. of_members xs no_members) (members (value (depth - 1)) (length start) start) ms rest read in
    ap (converted of_json) (ap (value depth) opens ∙ value-begin_object depth start some ∙ ap (parse_map json.object) js.1) ∙ ap (λ o. option_map (λ d. (d, rest)) (option_map object o)) js.2
