-- A node's WD is spelled from its operands' trees and their WD; the operands have smaller numbers, and the measure is the node's.
use Rattle.spell.proofs.+spell_defined.Given as goal

abbrev pub decreases-spell_defined : goal.decreases-spell_defined
decreases-spell_defined l = l.n
