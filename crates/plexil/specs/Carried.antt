-- What a step's code carries, as the definition has it.
use Rattle.plexil.specs.declared.carry.Carry as code
use Rattle.plexil.specs.Order.{Carry, carry_of}

abbrev pub carry_in : code.Carry → Carry
carry_in k = carry_of k.status k.outcome k.failure k.mark k.wrote k.top k.node k.tags k.bits k.tied
