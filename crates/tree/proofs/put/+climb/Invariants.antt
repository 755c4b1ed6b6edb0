-- A climb reads all that it needs before its first store, and stores on the way back: so it writes just where the definition does.
use Rattle.tree.proofs.put.+climb.Given as goal

abbrev pub decreases-climb : goal.decreases-climb
decreases-climb l = l.levels
