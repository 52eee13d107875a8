use Rattle.std.proofs.Common.{refl}
use Rattle.cpi_codes.proofs.NameTests.{not_name}
use Rattle.cpi_codes.proofs.names.Name.new.Goals as goal

pub returns-in_default-clause-refused : goal.returns-in_default-clause-refused
returns-in_default-clause-refused c = (λ _. not_name c.args.text.now c.in_default.ensures.cases.0, λ _. refl)
