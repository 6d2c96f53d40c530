use Rattle.std.proofs.Common.{inr}
use Rattle.std.proofs.lemmas.Result.{err_from_is_err_and}
use Rattle.dwc_base.specs.declared.records.Endian.TheVariants.{Little}
use Rattle.dwc_carry.proofs.FramesRefused.{table-is}
use Rattle.dwc_carry.proofs.EmitLaws.{transformed-writable, transformed-texts, transformed-unit}
use Rattle.dwc_carry.proofs.emit.carry_dwarf.Goals as goal

pub returns-clause-carried : goal.returns-clause-carried
returns-clause-carried g c = record {
  order_is = c.endianness-order.ensures;
  asked = c.requires.version;
  accepted = c.in_ok-dwarf.ensures.units.0;
  units = c.in_ok-dwarf.ensures.units.1;
  common = c.in_ok-frames.ensures.common;
  frames = rw c.in_ok-dwarf.ensures.counter at c.in_ok-frames.ensures.frames;
}

pub returns-clause-ready : goal.returns-clause-ready
returns-clause-ready g c =
    let dwarf = c.in_ok-dwarf.dwarf in
    let made = c.in_ok-dwarf.ensures.units in
    let framed = table-is Little 8 _ _ c.args.compilation.now c.in_ok-frames.frames c.in_ok-frames.ensures.common (rw c.in_ok-dwarf.ensures.counter at c.in_ok-frames.ensures.frames) in
    record {
      units = transformed-writable _ _ _ c.args.compilation.now dwarf.strings dwarf.units.units.items made.1;
      texts = transformed-texts _ _ _ c.args.compilation.now dwarf.strings dwarf.units.units.items made.1;
      sound = c.in_ok-frames.ensures.sound;
      unit = transformed-unit _ _ _ _ c.args.compilation.now dwarf.strings dwarf.units.units.items made.0 made.1 c.in_ok-frames.frames framed;
    }

pub returns-in_err-dwarf-clause-late : goal.returns-in_err-dwarf-clause-late
returns-in_err-dwarf-clause-late g c = λ none.
    let p = err_from_is_err_and c.from_residual.result c.from_residual.ensures.1 in
    rw (p.1, p.2) (c.in_err-dwarf.ensures.late none)

pub returns-in_err-frames-clause-late : goal.returns-in_err-frames-clause-late
returns-in_err-frames-clause-late g c = λ none.
    let p = err_from_is_err_and c.from_residual-in_err-frames.result c.from_residual-in_err-frames.ensures.1 in
    rw (p.1, p.2) (inr c.in_ok-dwarf.ensures.counter)
