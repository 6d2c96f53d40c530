use Rattle.dwc_image.proofs.simulated.add_all.Goals as goal

pub add_simulated-requires-clause-function : goal.add_simulated-requires-clause-function
add_simulated-requires-clause-function c =
    rw c.function-item.is (c.requires.functions c.loop-function.function-index c.function-item.result c.loop-function-test.true)
