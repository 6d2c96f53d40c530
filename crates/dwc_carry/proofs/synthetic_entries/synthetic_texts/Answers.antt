use Rattle.std.proofs.Common.{◌≡◌, ◌∷◌, [], ◌∙◌, ap, refl, subst, sym, lit<, map}
use Rattle.dwc_unit.specs.TextTables.{IsText}
use Rattle.dwc_carry.specs.MadeEntries.{numbers_added, texts_added}
use Rattle.dwc_carry.specs.SyntheticAdditions.{synthetic_texts}
use Rattle.dwc_carry.proofs.SyntheticBuilt.{all-plain, indexed, one-plain}
use Rattle.dwc_carry.proofs.synthetic_entries.synthetic_texts.Goals as goal

pub add_texts-requires : goal.add_texts-requires
add_texts-requires c =
    all-plain
    (c.as_bytes.result ∷ c.as_bytes-2.result ∷ c.as_bytes-3.result ∷ c.as_bytes-4.result ∷ c.as_bytes-5.result ∷ c.as_bytes-6.result ∷ c.as_bytes-7.result ∷ c.as_bytes-8.result ∷ c.as_bytes-9.result ∷ c.as_bytes-10.result ∷ []) (
      one-plain c.as_bytes.result _ c.as_bytes.ensures.value refl,
      (
        one-plain c.as_bytes-2.result _ c.as_bytes-2.ensures.value refl,
        (
          one-plain c.as_bytes-3.result _ c.as_bytes-3.ensures.value refl,
          (
            one-plain c.as_bytes-4.result _ c.as_bytes-4.ensures.value refl,
            (
              one-plain c.as_bytes-5.result _ c.as_bytes-5.ensures.value refl,
              (
                one-plain c.as_bytes-6.result _ c.as_bytes-6.ensures.value refl,
                (
                  subst IsText (sym c.as_bytes-7.ensures.value) c.requires,
                  (
                    one-plain c.as_bytes-8.result _ c.as_bytes-8.ensures.value refl,
                    (
                      one-plain c.as_bytes-9.result _ c.as_bytes-9.ensures.value refl,
                      (one-plain c.as_bytes-10.result _ c.as_bytes-10.ensures.value refl, tt),
                    ),
                  ),
                ),
              ),
            ),
          ),
        ),
      ),
    )

pub returns-clause-added : goal.returns-clause-added
returns-clause-added c =
    let texts : map (λ t. t.now) (c.as_bytes.result ∷ c.as_bytes-2.result ∷ c.as_bytes-3.result ∷ c.as_bytes-4.result ∷ c.as_bytes-5.result ∷ c.as_bytes-6.result ∷ c.as_bytes-7.result ∷ c.as_bytes-8.result ∷ c.as_bytes-9.result ∷ c.as_bytes-10.result ∷ []) ≡ synthetic_texts c.args.set_memory.now =
    rw (c.as_bytes.ensures.value, c.as_bytes-2.ensures.value, c.as_bytes-3.ensures.value, c.as_bytes-4.ensures.value, c.as_bytes-5.ensures.value, c.as_bytes-6.ensures.value, c.as_bytes-7.ensures.value, c.as_bytes-8.ensures.value, c.as_bytes-9.ensures.value, c.as_bytes-10.ensures.value) refl in
    c.in_ok-ids.ensures.added ∙ ap (texts_added c.args.strings.now) texts

pub returns-clause-numbers : goal.returns-clause-numbers
returns-clause-numbers c =
    let texts : map (λ t. t.now) (c.as_bytes.result ∷ c.as_bytes-2.result ∷ c.as_bytes-3.result ∷ c.as_bytes-4.result ∷ c.as_bytes-5.result ∷ c.as_bytes-6.result ∷ c.as_bytes-7.result ∷ c.as_bytes-8.result ∷ c.as_bytes-9.result ∷ c.as_bytes-10.result ∷ []) ≡ synthetic_texts c.args.set_memory.now =
    rw (c.as_bytes.ensures.value, c.as_bytes-2.ensures.value, c.as_bytes-3.ensures.value, c.as_bytes-4.ensures.value, c.as_bytes-5.ensures.value, c.as_bytes-6.ensures.value, c.as_bytes-7.ensures.value, c.as_bytes-8.ensures.value, c.as_bytes-9.ensures.value, c.as_bytes-10.ensures.value) refl in
    let ns = numbers_added c.args.strings.now (synthetic_texts c.args.set_memory.now) in
    let ids = c.in_ok-ids.ids.items in
    let same = c.in_ok-ids.ensures.numbers ∙ ap (numbers_added c.args.strings.now) texts in
    rw (indexed ids ns 0 c.index.result.now same (lit< tt) c.index.ensures, indexed ids ns 1 c.index-2.result.now same (lit< tt) c.index-2.ensures, indexed ids ns 2 c.index-3.result.now same (lit< tt) c.index-3.ensures, indexed ids ns 3 c.index-4.result.now same (lit< tt) c.index-4.ensures, indexed ids ns 4 c.index-5.result.now same (lit< tt) c.index-5.ensures, indexed ids ns 5 c.index-6.result.now same (lit< tt) c.index-6.ensures, indexed ids ns 6 c.index-7.result.now same (lit< tt) c.index-7.ensures, indexed ids ns 7 c.index-8.result.now same (lit< tt) c.index-8.ensures, indexed ids ns 8 c.index-9.result.now same (lit< tt) c.index-9.ensures, indexed ids ns 9 c.index-10.result.now same (lit< tt) c.index-10.ensures) refl
