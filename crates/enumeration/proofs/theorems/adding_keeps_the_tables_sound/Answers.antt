use Rattle.enumeration.proofs.Filling.{adding_keeps}
use Rattle.enumeration.proofs.theorems.adding_keeps_the_tables_sound.Goals as goal

pub returns : goal.returns
returns g c = adding_keeps g.C.Cost.rules g.met.C.Cost.lawful
