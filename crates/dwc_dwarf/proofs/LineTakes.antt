-- The reader of a directory takes a byte at least.
use Rattle.std.proofs.Common.{length}
use Rattle.dwc_base.specs.Reading.{Unread, ◌>>=◌}
use Rattle.dwc_dwarf.specs.LineHeaders.{directory_at}
use Rattle.dwc_base.proofs.Items.{Leaves}
use Rattle.dwc_base.proofs.Takes.{Leaves-bind, Leaves-same, text_at-leaves}

pub directory_at-leaves : (u : Unread) → Leaves (directory_at u) (length u.left)
unfolding directory_at
directory_at-leaves u = Leaves-bind _ _ _ (text_at-leaves u) (λ name. Leaves-same _ _)
