use Rattle.std.proofs.Common.{refl, rules}
use Rattle.dwc_types.proofs.TypeKeyLaws.{no-keys}
use Rattle.dwc_types.proofs.type_key.no_keys.Goals as goal

pub returns : goal.returns
returns c source s texts = no-keys source s texts _ refl (search rules) (search rules) (search rules) (search rules)
