use Rattle.dwc_carry.proofs.simulated_modules.add_module.Goals as goal

pub returns-clause-functions : goal.returns-clause-functions
returns-clause-functions g c = λ m number behind whole parts has.
    c.add_functions.ensures.functions m number behind whole (record { file = parts.file; functions = parts.functions; told = parts.told; frames = parts.frames }) has
