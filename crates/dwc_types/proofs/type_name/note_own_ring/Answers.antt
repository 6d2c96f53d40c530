use Rattle.std.proofs.Common.{◌≡◌, ◌∙◌, ◌==◌, ap, false, refl, subst, sym}
use Rattle.std.proofs.lemmas.Bool.{ne_eqb}
use Rattle.dwc_base.specs.declared.constants.TheConstants.{DW_TAG_const_type}
use Rattle.dwc_types.specs.declared.type_name.TypeNames.{TypeNames}
use Rattle.dwc_types.specs.KnownNames.{NamesRing}
use Rattle.dwc_types.proofs.NotedNameLaws.{rings-known}
use Rattle.dwc_types.proofs.TypeRingLaws.{names-ring}
use Rattle.dwc_types.proofs.type_name.note_own_ring.Goals as goal

pub returns-clause-names : goal.returns-clause-names
returns-clause-names c source number s texts e is emitted here tag_is named known =
    let old = c.args.names.now in
    let name = c.args.name in
    let new : TypeNames = record { pointers = old.pointers; references = old.references; rings = c.note_ring.new.names; types = old.types; keys = old.keys } in
    let unlike : (e.entry.tag == DW_TAG_const_type) ≡ false = ap (λ tag. tag == DW_TAG_const_type) tag_is ∙ ne_eqb c.args.tag DW_TAG_const_type c.if-tag-eq-DW_TAG_const_type.false in
    let ring = names-ring source number s is old.types c.args.own e texts name c.in_ok-ring.ring.items known.types emitted here unlike named c.in_ok-ring.ensures in
    rings-known c.note_ring.result source s texts old new refl refl refl refl known (c.note_ring.ensures source s texts (subst (λ ts. NamesRing source s texts ts name) (sym c.deref-3.ensures.value) ring) known.rings)
