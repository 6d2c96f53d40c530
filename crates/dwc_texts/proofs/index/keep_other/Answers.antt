use Rattle.std.proofs.Common.{◌≡◌, ◌∙◌, ap, rules, Some}
use Rattle.std.specs.Prelude.{if◌then◌else◌}
use Rattle.std.specs.BTreeMap.{is_at}
use Rattle.std.specs.Cmp.Lexicographic.{slice_cmp}
use Rattle.std.specs.Map.{lookup}
use Rattle.std.specs.Ordering.{nat_cmp}
use Rattle.std.specs.Str.{bytes_eq}
use Rattle.dwc_texts.specs.TextIndexes.{place_by_bytes}
use Rattle.dwc_texts.proofs.TextMapLaws.{found-inserted}
use Rattle.dwc_texts.proofs.index.keep_other.Goals as goal

pub returns-clause-ok : goal.returns-clause-ok
returns-clause-ok c = λ t.
    let same : c.in_ok-to_vec.field-0.items ≡ c.args.text.now = search rules in
    ap (lookup (is_at (λ k. slice_cmp nat_cmp t k.items))) c.in_ok-insert.ensures.entries ∙ found-inserted (λ k. k.items) t c.in_ok-to_vec.field-0 c.args.place c.args.others.now.entries ∙ ap (λ s. if bytes_eq s t then Some c.args.place else place_by_bytes c.args.others.now t) same
