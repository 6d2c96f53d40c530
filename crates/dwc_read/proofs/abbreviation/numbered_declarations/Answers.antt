use Rattle.std.proofs.Common.{◌≡◌, map, sym, ap, ◌∙◌, Some, None, Ok, Err}
use Rattle.std.proofs.lemmas.List.{map_push}
use Rattle.dwc_base.specs.Abbreviations.{declaration_at}
use Rattle.dwc_base.proofs.Takes.{Leaves-at}
use Rattle.dwc_base.proofs.TakesMore.{declaration_at-leaves}
use Rattle.dwc_read.specs.Tables.{declaration_view}
use Rattle.dwc_read.proofs.NumberedLaws.{so_far-more, so_far-end, so_far-flaw}
use Rattle.dwc_read.proofs.abbreviation.numbered_declarations.Goals as goal

pub loop-declarations-smaller : goal.loop-declarations-smaller
loop-declarations-smaller c =
    let found : c.in-Ok-Some.field-0 ≡ Some c.in-Ok-Some.found = c.in-Ok-Some.field-0-is ∙ ap Some (sym c.in-Ok-Some.found-is) in
    let read : declaration_at c.loop-declarations.cursor ≡ Ok (Some (declaration_view c.in-Ok-Some.found), c.next_declaration.new.cursor) = rw found at c.in-Ok-Some.ensures in
    Leaves-at read (declaration_at-leaves c.loop-declarations.cursor)

pub loop-declarations-preserved : goal.loop-declarations-preserved
loop-declarations-preserved c = λ bytes is.
    let l = c.loop-declarations in
    let found : c.in-Ok-Some.field-0 ≡ Some c.in-Ok-Some.found = c.in-Ok-Some.field-0-is ∙ ap Some (sym c.in-Ok-Some.found-is) in
    let read : declaration_at l.cursor ≡ Ok (Some (declaration_view c.in-Ok-Some.found), c.next_declaration.new.cursor) = rw found at c.in-Ok-Some.ensures in
    rw (c.in_ok-push.ensures.items, c.place.ensures, c.in_ok-push-in-Ok-Some.ensures.items, map_push)
    (so_far-more c.args.cursor.order bytes l.starts.items (map declaration_view l.declarations.items) l.cursor (l.invariant bytes is) (declaration_view c.in-Ok-Some.found) c.next_declaration.new.cursor read)

pub returns-in-Ok-None : goal.returns-in-Ok-None
returns-in-Ok-None c = λ bytes is.
    let l = c.loop-declarations in
    let read : declaration_at l.cursor ≡ Ok (None, c.next_declaration.new.cursor) = rw c.in-Ok-None.field-0-is at c.in-Ok-None.ensures in
    let told = so_far-end c.args.cursor.order bytes l.starts.items (map declaration_view l.declarations.items) l.cursor (l.invariant bytes is) c.next_declaration.new.cursor read in
    record { told = λ number place here. told number place (rw (c.in_ok-push.ensures.items, c.place.ensures) at here) }

pub returns-in-Err-Flawed : goal.returns-in-Err-Flawed
returns-in-Err-Flawed c = λ bytes is.
    let l = c.loop-declarations in
    let read : declaration_at l.cursor ≡ Err c.in-Err-Flawed.flaw = rw c.in-Err-Flawed.field-0-is at c.in-Err-Flawed.ensures in
    let told = so_far-flaw c.args.cursor.order bytes l.starts.items (map declaration_view l.declarations.items) l.cursor (l.invariant bytes is) c.in-Err-Flawed.flaw read in
    rw c.in-Err-Flawed.flaw-is (record { told = λ number place here. told number place (rw (c.in_ok-push.ensures.items, c.place.ensures) at here) })
