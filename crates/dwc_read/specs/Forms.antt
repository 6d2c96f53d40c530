-- What contracts see of forms.
use Rattle.dwc_dwarf.specs.Values as value
use Rattle.dwc_read.specs.Sizes.{size_view}
use Rattle.dwc_read.specs.declared.form.Form.{Form}
use Rattle.dwc_read.specs.declared.form.Form.TheVariants.{Addr, IndexedAddr, Blocks, Exprloc, DataOf, Sdata, Implicit, FlagByte, FlagPresent, Text, TextElsewhere, Reference, RefAddr, SecOffset, IndexedLocation, IndexedRange, PassedOver, Supplementary}

abbrev pub form_view : Form → value.Form
form_view Addr = value.addr
form_view (IndexedAddr size) = value.indexed_addr (size_view size)
form_view (Blocks size) = value.blocks (size_view size)
form_view Exprloc = value.exprloc
form_view (DataOf size) = value.data_of (size_view size)
form_view Sdata = value.sdata
form_view Implicit = value.implicit
form_view FlagByte = value.flag_byte
form_view FlagPresent = value.flag_present
form_view Text = value.string
form_view (TextElsewhere size) = value.string_elsewhere (size_view size)
form_view (Reference size) = value.reference (size_view size)
form_view RefAddr = value.ref_addr
form_view SecOffset = value.sec_offset
form_view IndexedLocation = value.indexed_location
form_view IndexedRange = value.indexed_range
form_view (PassedOver size) = value.passed_over size
form_view Supplementary = value.supplementary
