use Rattle.std.proofs.Common.{◌≡◌, map, drop, None, length}
use Rattle.std.specs.Prelude.{◌<◌, IsSome}
use Rattle.dwc_image.specs.ImageSequences.{with_sequences}
use Rattle.dwc_image.specs.SimulatedSequences.{simulated_sequence, simulated_view}
use Rattle.dwc_image.proofs.simulated.add_all.Given as goal

-- with the sequences of the functions that are left the program is what it is with all
abbrev pub invariant-loop-function : goal.invariant-loop-function
invariant-loop-function l = record {
  sized : IsSome l.program.address_size;
  ended : l.program.begun ≡ None;
  some : 0 < length l.program.files;
  left : with_sequences (map (λ f. simulated_sequence f.0 f.1) (map simulated_view (drop l.function-index l.functions))) l.program ≡ with_sequences (map (λ f. simulated_sequence f.0 f.1) (map simulated_view l.functions)) l.fn.program;
}
