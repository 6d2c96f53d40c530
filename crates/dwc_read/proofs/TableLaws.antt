-- The table at an offset, from what stands there.
use Rattle.std.proofs.Common.{◌≡◌, ℕ, refl, ap, ◌∙◌, List, Option, Some, None, Ok, Err}
use Rattle.dwc_base.specs.declared.faults.Flaw.{Flaw}
use Rattle.dwc_base.specs.declared.faults.What.TheVariants.{Abbreviation}
use Rattle.dwc_base.specs.declared.section_name.SectionName.TheVariants.{Abbrev}
use Rattle.dwc_base.specs.Reading.{Unread, Read, items_at}
use Rattle.dwc_base.specs.Sections.{Sections, section_from, fault_of}
use Rattle.dwc_base.specs.Abbreviations.{Declaration, declaration_at, abbreviation_table}
use Rattle.dwc_read.specs.UnitTables.{read_as}
use Rattle.dwc_read.specs.KnownTables.{table_told, told_as}

module _ (s : Sections) (offset : ℕ) where
  pub abbreviation_table-read : (ds : List Declaration) (v : Unread) → items_at declaration_at (section_from s Abbrev offset) ≡ Ok (ds, v) → abbreviation_table s offset ≡ Ok ds
  unfolding abbreviation_table
  abbreviation_table-read ds v read = rw (read, abbreviation_table) refl

  pub abbreviation_table-flaw : (flaw : Flaw) → items_at declaration_at (section_from s Abbrev offset) ≡ Err flaw → abbreviation_table s offset ≡ Err (fault_of Abbreviation Abbrev offset flaw)
  unfolding abbreviation_table
  abbreviation_table-flaw flaw read = rw (read, abbreviation_table) refl

  -- as it was read among others
  pub abbreviation_table-told : (flaw : Option Flaw) (ds : List Declaration) → table_told (items_at declaration_at (section_from s Abbrev offset)) ≡ told_as flaw ds → abbreviation_table s offset ≡ read_as offset flaw ds
  abbreviation_table-told flaw ds = go (items_at declaration_at (section_from s Abbrev offset)) refl flaw
    where
      go : (r : Read (List Declaration)) → items_at declaration_at (section_from s Abbrev offset) ≡ r → (flaw : Option Flaw) → table_told r ≡ told_as flaw ds → abbreviation_table s offset ≡ read_as offset flaw ds
      go (Ok read) is None told = let same : read.0 ≡ ds = cc in abbreviation_table-read read.0 read.1 is ∙ ap Ok same
      go (Ok read) is (Some flaw) told = absurd (cc)
      go (Err flaw) is None told = absurd (cc)
      go (Err flaw) is (Some other) told = let same : flaw ≡ other = cc in abbreviation_table-flaw flaw is ∙ ap (λ f. Err (fault_of Abbreviation Abbrev offset f)) same
