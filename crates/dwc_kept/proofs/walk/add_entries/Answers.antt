use Rattle.std.proofs.Common.{◌≡◌, ◌∙◌, ◌<◌, ◌^◌, ap, subst, Some, None}
use Rattle.std.specs.Option.{option_or}
use Rattle.dwc_dwarf.specs.Entries.{Entry}
use Rattle.dwc_rules.specs.EntryRules.{is_required, named_faults}
use Rattle.dwc_base.specs.Listing.{first_of}
use Rattle.dwc_kept.specs.ReadEntries.{with_entry_read}
use Rattle.dwc_kept.specs.RootsSaid.{root_said}
use Rattle.dwc_kept.specs.ReadingSeen.{reading_view}
use Rattle.dwc_kept.proofs.ReadLaws.{entries-go}
use Rattle.dwc_kept.proofs.walk.add_entries.Goals as goal

pub loop-entries-preserved : goal.loop-entries-preserved
loop-entries-preserved c =
    let s = c.args.unit.now.sections in
    let h = c.args.unit.now.header in
    let next = rw c.if-branch.true at c.in_ok-advance.ensures.next in (
      entries-go (is_required c.args.transform.now s h) (named_faults s h) h c.args.entries.now.left (reading_view c.args.reading.now) c.loop-entries.entries.left c.advance.new.self.left (reading_view c.loop-entries.reading) (reading_view c.add_entry.new.reading)
          c.loop-entries.root c.root_or-root.result c.advance.new.self.current c.loop-entries.invariant.0 next
          (c.in_ok-add_entry.ensures.added ∙ ap (λ e. with_entry_read (is_required c.args.transform.now s h) h e (reading_view c.loop-entries.reading)) c.current-entry.ensures)
          (subst (λ (e : Entry). e.offset < 2 ^ 32) c.current-entry.ensures c.in_ok-add_entry.ensures.small)
          (subst (λ e. first_of (named_faults s h e) ≡ None) c.current-entry.ensures c.in_ok-add_entry.ensures.fault)
          (c.root_or-root.ensures ∙ ap (λ (e : Entry). option_or c.loop-entries.root (Some (root_said e))) c.current-entry.ensures),
      c.in_ok-add_entry.ensures.lists,
    )
