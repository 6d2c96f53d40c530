-- The definitions of frames that stay shut, as a set: a proof that computes on literals names it on its `unfolding` line.
use Rattle.std.proofs.Common.{ℕ}
use Rattle.dwc_base.specs.NumberBytes.{uleb_bytes_within, uleb_bytes, sleb_bytes_from_0, sleb_bytes_below_0, sleb_bytes}
use Rattle.dwc_output.specs.FrameSections.{frame_entry_bytes, frame_section}

unfoldable pub frames_on_literals : ℕ
unfolding uleb_bytes_within uleb_bytes sleb_bytes_from_0 sleb_bytes_below_0 sleb_bytes frame_entry_bytes frame_section
frames_on_literals = 0
