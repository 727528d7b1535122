use Rattle.go_graph.proofs.components.find_components.Given as goal

abbrev pub decreases-loop-steps : goal.decreases-loop-steps
decreases-loop-steps l = l.steps
