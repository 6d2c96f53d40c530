use Rattle.std.proofs.Common.{◌++◌, sym, subst, refl}
use Rattle.std.specs.Prelude.{IsOk}
use Rattle.std.specs.Fmt.{HasWritten}
use Rattle.std.proofs.lemmas.Grind.{put_three}
use Rattle.dwc_addr.specs.CompilationTexts.{module_name, module_text, comma}
use Rattle.dwc_addr.proofs.TextLaws.{text-on}
use Rattle.dwc_addr.proofs.compilation_text.write_modules.Goals as goal

pub loop-i-preserved : goal.loop-i-preserved
loop-i-preserved g c =
    let t = c.index-translations-i.result in
    let i = c.loop-i.i in
    let so_far = c.loop-i.invariant.0 in
    let took = g.W.Write.write_str_gives in (
      so_far ++ (comma i ++ module_text i (module_name t)),
      text-on so_far _ c.args.translations.now i t c.loop-i-test.true c.index-translations-i.is c.loop-i.invariant.1,
      λ plain.
          let before = c.loop-i.invariant.2 plain in
          let lead = c.write_comma.ensures before.plain (subst (λ r. IsOk r) (sym c.in_ok-write_comma.was) refl) in
          let named = subst (λ x. HasWritten took c.write_comma.new.f (module_text i (module_name x)) c.write_module.new.f) (sym c.index-translations-i.is) (c.write_module.ensures lead.plain (subst (λ r. IsOk r) (sym c.in_ok-write_module.was) refl)) in
          put_three took _ _ _ _ so_far (comma i) (module_text i (module_name t)) _ before lead named refl,
    )
