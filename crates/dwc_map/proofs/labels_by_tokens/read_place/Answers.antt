use Rattle.std.proofs.Common.{◌≡◌, ◌∷◌, codes, w64, to_z, of_z, sym, subst, arith, rules}
use Rattle.std.proofs.lemmas.Int.{to_z-of_z}
use Rattle.json.specs.Token as token
use Rattle.dwc_native.specs.Compiled.{at_frame_offset}
use Rattle.dwc_map.specs.ByTokens.{TellsPlace}
use Rattle.dwc_map.proofs.TokenLabels.{cfa-told, reg-told}
use Rattle.dwc_map.proofs.TokenShapes.{number-told}
use Rattle.dwc_map.proofs.labels_by_tokens.read_place.Goals as goal

pub returns-in_ok-read_number-in-reg-clause-told : goal.returns-in_ok-read_number-in-reg-clause-told
returns-in_ok-read_number-in-reg-clause-told c = λ depth.
    let between = c.next.new.self in
    let is : c.args.reader.now ≡ token.string (codes "reg") ∷ between = grind arith in
    reg-told depth c.args.reader.now between c.read_number.new.reader c.in_ok-read_number-in-reg.field-0 is (number-told depth between c.read_number.new.reader c.in_ok-read_number-in-reg.field-0 c.in_ok-read_number-in-reg.ensures)

pub returns-in_ok-read_signed-in-cfa-clause-told : goal.returns-in_ok-read_signed-in-cfa-clause-told
returns-in_ok-read_signed-in-cfa-clause-told c = λ depth.
    let between = c.next.new.self in
    let is : c.args.reader.now ≡ token.string (codes "cfa") ∷ between = grind arith in
    let offset = c.in_ok-read_signed-in-cfa.field-0 in
    let same : to_z w64 (of_z w64 offset) ≡ offset = to_z-of_z w64 offset (search rules) in
    subst (λ z. TellsPlace depth c.args.reader.now (at_frame_offset z) c.read_signed.new.reader) (sym same) (cfa-told depth c.args.reader.now between c.read_signed.new.reader offset is (c.in_ok-read_signed-in-cfa.ensures.told depth))
