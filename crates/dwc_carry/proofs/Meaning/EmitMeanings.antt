-- An output that carries an input means what it does.
use Rattle.std.proofs.Common.{ℕ, List, map, Option, Result, Ok, Err, Vec, IfOk}
use Rattle.std.specs.Global.{Global}
use Rattle.dwc_base.specs.Outputs.{OutputSection, section_view}
use Rattle.dwc_base.specs.declared.output.DwarfSection.{DwarfSection}
use Rattle.dwc_base.specs.declared.records.Endian.{Endian}
use Rattle.dwc_native.specs.CallFrames.{CommonEntry}
use Rattle.dwc_rules.specs.Carried.{Compilation}
use Rattle.dwc_carried.specs.OutputCarried.{OutputCarried}
use Rattle.dwc_isa.specs.Registers.{Registers}
use Rattle.dwc_addr.specs.Compilations.{CompilationValue}
use Rattle.dwc_expr.proofs.Meaning.CompiledWhole.{compiled-parts-are-whole}
use Rattle.dwc_carry.specs.declared.error.DebugError.{DebugError}
use Rattle.dwc_carry.specs.Emits.{Emits}
use Rattle.dwc_carry.specs.Inputs.{input_of}
use Rattle.dwc_carry.specs.MeaningsCarried.{MeaningsAreCarried, OutputMeans}
use Rattle.dwc_carry.proofs.Meaning.UnitMeanings.{meanings-by}

pub meanings-are-carried : MeaningsAreCarried
meanings-are-carried = meanings-by compiled-parts-are-whole

pub output-means : (c : Compilation) (sections : List OutputSection) → OutputCarried c sections → OutputMeans c sections
output-means c sections o = record { said = o.wanted; trees = o.trees; means = λ bounded. meanings-are-carried c o.wanted bounded o.is_forest }

-- and so does what is emitted
pub emits-mean : (order : Endian) (size : ℕ) (registers : Registers) (entry : Option CommonEntry) (c : CompilationValue) (r : Result (Vec DwarfSection Global) DebugError) → Emits order size registers entry c r
    → IfOk r (λ (s : Vec DwarfSection Global). OutputMeans (input_of order size registers entry c) (map section_view s.items))
emits-mean order size registers entry c (Ok s) h = output-means (input_of order size registers entry c) (map section_view s.items) h.1.output
emits-mean order size registers entry c (Err e) h = tt
