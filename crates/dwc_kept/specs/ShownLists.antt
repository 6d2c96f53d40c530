-- What is known of range lists that were read: whether they show code. (This project's own rule.)
use Rattle.std.specs.Prelude.{◌≡◌, ℕ, List, Bool, true, false, Option, Some, None, IfSome}
use Rattle.std.specs.Ordering.{nat_cmp}
use Rattle.std.specs.BTreeMap.{BTreeMap, get}
use Rattle.dwc_base.specs.declared.section_name.SectionName.{SectionName}
use Rattle.dwc_base.specs.declared.section_name.SectionName.TheVariants.{Ranges, Rnglists}
use Rattle.dwc_base.specs.Listing.{first_of}
use Rattle.dwc_dwarf.specs.RawLists.{ListSource, ListPlace, raw_ranges}
use Rattle.dwc_native.specs.Functions.{Function}
use Rattle.dwc_rules.specs.RangeKept.{some_shows_code}
use Rattle.dwc_kept.specs.RangeCode.{faults_left, list_place}
use Rattle.dwc_kept.specs.declared.shown_lists.ShownAt.{ShownAt}
use Rattle.dwc_kept.specs.declared.shown_lists.ShownLists.{ShownLists}

-- Whether the list at a place shows code, from what is known of its base on; all of it can be read.
pub record IsShown (s : ListSource) (fs : List Function) (l : ListPlace) (base : Option Bool) (shows : Bool) : Type 0 where
  pub code : shows ≡ some_shows_code s fs base (raw_ranges s l).items
  pub whole : first_of (faults_left s l (raw_ranges s l)) ≡ None

-- what is noted of the lists of a section, by their offsets, is so
pub record AreShown (s : ListSource) (fs : List Function) (section : SectionName) (base : Option Bool) (noted : BTreeMap ℕ Bool) : Type 0 where
  pub shown : (offset : ℕ) → IfSome (get nat_cmp noted offset) (IsShown s fs (list_place section offset) base)

pub record KnowsSection (s : ListSource) (fs : List Function) (section : SectionName) (noted : ShownAt) : Type 0 where
  pub without : AreShown s fs section None noted.without
  pub outside : AreShown s fs section (Some false) noted.outside
  pub inside : AreShown s fs section (Some true) noted.inside

pub record KnowsLists (s : ListSource) (fs : List Function) (noted : ShownLists) : Type 0 where
  pub ranges : KnowsSection s fs Ranges noted.ranges
  pub rnglists : KnowsSection s fs Rnglists noted.rnglists
