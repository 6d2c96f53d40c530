use Rattle.std.proofs.Common.{sym, refl, append-nil}
use Rattle.std.proofs.lemmas.List.{map_push}
use Rattle.dwc_read.proofs.links.put_link.Goals as goal

pub returns-in_default : goal.returns-in_default
returns-in_default c = rw c.in_default.is (sym (append-nil _))

pub returns : goal.returns
returns c = rw (c.in-Some.is, c.in_ok-push.ensures.items, map_push) refl
