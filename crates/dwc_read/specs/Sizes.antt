-- How long the numbers in values are.
use Rattle.dwc_dwarf.specs.Values as value
use Rattle.dwc_read.specs.declared.number.Size.{Size}
use Rattle.dwc_read.specs.declared.number.Size.TheVariants.{One, Two, Three, Four, Eight, Variable}

abbrev pub size_view : Size → value.Size
size_view One = value.fixed 1
size_view Two = value.fixed 2
size_view Three = value.fixed 3
size_view Four = value.fixed 4
size_view Eight = value.fixed 8
size_view Variable = value.variable
