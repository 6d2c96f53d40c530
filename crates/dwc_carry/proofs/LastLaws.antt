-- The line table that was carried last, behind one more unit of the output.
use Rattle.std.proofs.Common.{◌≡◌, ℕ, List, [], ◌∷◌, ◌++◌, length, get_or, ap, sym, ◌∙◌, subst, arith, Option, Some, None}
use Rattle.std.proofs.lemmas.List.{get_or_append_left, length-append}
use Rattle.std.proofs.Math.Seq.{get_or-append_seam}
use Rattle.dwc_base.specs.declared.records.Encoding.{Encoding}
use Rattle.dwc_base.specs.Sections.{Sections}
use Rattle.dwc_base.specs.Units.{UnitHeader}
use Rattle.dwc_dwarf.specs.Indexed.{text_base}
use Rattle.dwc_native.specs.Functions.{Function}
use Rattle.dwc_unit.specs.declared.units.UnitId.{UnitId}
use Rattle.dwc_unit.specs.GivenUnits.{GivenUnit}
use Rattle.dwc_source.specs.declared.files.UnitFiles.{UnitFiles}
use Rattle.dwc_carry.specs.declared.last_lines.LastLines.{LastLines}
use Rattle.dwc_carry.specs.UnitPrograms.{CarriesNamed, CarriesTableAt}
use Rattle.dwc_carry.specs.LastLines.{IsCarriedIn, IsLast, last_after}

module _ (fs : List Function) (encoding : Encoding) (s : Sections) where
  -- other units of the output behind it change nothing
  kept-one : (us : List GivenUnit) (u : GivenUnit) (last : LastLines) → IsCarriedIn fs encoding s us last → IsCarriedIn fs encoding s (us ++ u ∷ []) last
  kept-one us u last h = record {
    within = omega (arith, h.within, length-append us (u ∷ []));
    carries = λ v is. h.carries v (is ∙ get_or_append_left us (u ∷ []) v last.unit.index h.within);
  }

  kept : (us : List GivenUnit) (u : GivenUnit) (last : Option LastLines) → IsLast fs encoding s us last → IsLast fs encoding s (us ++ u ∷ []) last
  kept us u None h = tt
  kept us u (Some last) h = kept-one us u last h

  -- a unit that names a table, or none
  pub last-carried : (us : List GivenUnit) (u : GivenUnit) (id : UnitId) (h : UnitHeader) (o : Option ℕ) (files : UnitFiles) (last : Option LastLines) → id.index ≡ length us → u.version ≡ encoding.version → u.address_size ≡ encoding.address_size → IsLast fs encoding s us last
      → CarriesNamed fs s h encoding o files u.lines → IsLast fs encoding s (us ++ u ∷ []) (last_after o h.address_size (text_base s h) files id last)
  last-carried us u id h None files last at old same known named = kept us u last known
  last-carried us u id h (Some offset) files last at old same known named =
      let here : (v : GivenUnit) → v ≡ get_or (us ++ u ∷ []) id.index v → v ≡ u = λ v is. is ∙ ap (λ i. get_or (us ++ u ∷ []) i v) at ∙ get_or-append_seam us u [] v in
      let Q : GivenUnit → Type 0 = λ v. (v.version ≡ encoding.version) × ((v.address_size ≡ encoding.address_size) × CarriesTableAt fs s h.address_size (text_base s h) encoding offset files v.lines) in
      record {
        within = omega (arith, at, length-append us (u ∷ []));
        carries = λ v is. subst Q (sym (here v is)) (old, (same, named));
      }
