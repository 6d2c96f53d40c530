use Rattle.std.proofs.Common.{◌≡◌, ℕ, List, Bor, refl, ap, sym, subst, ◌∙◌, option_map}
use Rattle.dwc_dwarf.specs.Entries.{Entry}
use Rattle.dwc_rules.specs.EntryRules.{bound_value_refused, of_list}
use Rattle.dwc_rules.specs.Kept.{Placed}
use Rattle.dwc_dwarf.specs.Lists.{list_source}
use Rattle.dwc_rules.specs.LocationRules.{ExpressionSource, lists_of}
use Rattle.dwc_rules.specs.RangeRefusals.{begins_by_low_pc, bound_refusal}
use Rattle.dwc_dwarf.specs.Values.{Value}
use Rattle.dwc_read.specs.EntriesSeen.{entry_view}
use Rattle.dwc_read.specs.ValuesSeen.{value_view}
use Rattle.dwc_read.specs.declared.value.AttributeValue.{AttributeValue}
use Rattle.dwc_read.specs.declared.value.AttributeValue.TheVariants.{Addr, AddrIndex, Constant, Flag, Block, Exprloc, Text, TextRef, LineRef, RangeRef, RangeIndex, LocRef, LocIndex, UnitRef, InfoRef, Dropped}
use Rattle.dwc_extents.specs.CodeSources.{source_with}
use Rattle.dwc_extents.specs.NativeExtents.{TellsRefusal}
use Rattle.dwc_extents.proofs.BoundLaws.{before-many}
use Rattle.dwc_extents.proofs.bounds.check_said.Goals as goal

-- what is refused of a bound that is no expression
code-said : (c : ExpressionSource) (e : Placed) (before : List (ℕ × Value)) (name : ℕ) (v : AttributeValue) → ((bytes : Bor (List ℕ)) → v ≡ Exprloc bytes → ⊥)
    → bound_value_refused c e before name (value_view v) ≡ option_map of_list (bound_refusal (lists_of c) c.functions e.entry before (name, value_view v))
code-said c e before name (Addr a) other = refl
code-said c e before name (AddrIndex n) other = refl
code-said c e before name (Constant form bits) other = refl
code-said c e before name (Flag b) other = refl
code-said c e before name (Block bytes) other = refl
code-said c e before name (Exprloc bytes) other = absurd (other bytes refl)
code-said c e before name (Text bytes) other = refl
code-said c e before name (TextRef form bits) other = refl
code-said c e before name (LineRef n) other = refl
code-said c e before name (RangeRef n) other = refl
code-said c e before name (RangeIndex n) other = refl
code-said c e before name (LocRef n) other = refl
code-said c e before name (LocIndex n) other = refl
code-said c e before name (UnitRef n) other = refl
code-said c e before name (InfoRef n) other = refl
code-said c e before name Dropped other = refl

pub returns-in-Exprloc : goal.returns-in-Exprloc
returns-in-Exprloc c = λ registers s e before entry begins seen force.
    let src = c.args.source.now in
    subst (λ v. TellsRefusal (bound_value_refused (source_with registers src s) e before c.args.name (value_view v)) c.check_placed.result) (sym c.in-Exprloc.is)
    (c.check_placed.ensures registers s e before (ap (λ (x : Entry). x.offset) entry) (before-many (entry_view c.args.entry.now).attributes before c.args.number seen c.requires.within) force)

pub returns-in_default : goal.returns-in_default
returns-in_default c = λ registers s e before entry begins seen force.
    let src = c.args.source.now in
    let lists = list_source src.unit.now.sections src.unit.now.header in
    let fs = src.transform.now in
    let told = c.check_code.ensures fs before (begins ∙ ap (begins_by_low_pc lists fs) entry) seen in
    subst (λ o. TellsRefusal o c.check_code.result) (sym (code-said (source_with registers src s) e before c.args.name c.args.value c.in_default.not-Exprloc))
    (subst (λ (x : Entry). TellsRefusal (option_map of_list (bound_refusal lists fs x before (c.args.name, value_view c.args.value))) c.check_code.result) (sym entry) told)
