-- The text of a compilation, module by module.
use Rattle.std.proofs.Common.{◌≡◌, ℕ, ◌+◌, ◌<◌, sym, ap, ◌∙◌, List, ◌++◌, map, length, drop, get_or}
use Rattle.std.proofs.lemmas.List.{at_drop_more, append_assoc}
use Rattle.dwc_base.specs.declared.translation.ModuleTranslation.{ModuleTranslation}
use Rattle.dwc_addr.specs.CompilationTexts.{module_name, module_text, modules_text, comma}

-- the text of modules from one on is its own and that of those behind it
pub text-more : (ts : List ModuleTranslation) (i : ℕ) (t : ModuleTranslation) → i < length ts → t ≡ get_or ts i t
    → modules_text i (map module_name (drop i ts)) ≡ comma i ++ (module_text i (module_name t) ++ modules_text (i + 1) (map module_name (drop (i + 1) ts)))
text-more ts i t inside is =
    at_drop_more (λ rest. modules_text i (map module_name rest)) ts i t inside
    ∙ ap (λ x. comma i ++ (module_text i (module_name x) ++ modules_text (i + 1) (map module_name (drop (i + 1) ts)))) (sym is)

-- so it goes on from what was written
pub text-on : (so_far whole : List ℕ) (ts : List ModuleTranslation) (i : ℕ) (t : ModuleTranslation) → i < length ts → t ≡ get_or ts i t
    → so_far ++ modules_text i (map module_name (drop i ts)) ≡ whole
    → (so_far ++ (comma i ++ module_text i (module_name t))) ++ modules_text (i + 1) (map module_name (drop (i + 1) ts)) ≡ whole
text-on so_far whole ts i t inside is all =
    append_assoc so_far (comma i ++ module_text i (module_name t)) _
    ∙ ap (λ rest. so_far ++ rest) (append_assoc (comma i) (module_text i (module_name t)) _ ∙ sym (text-more ts i t inside is))
    ∙ all
