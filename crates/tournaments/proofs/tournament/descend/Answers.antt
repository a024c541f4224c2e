use Rattle.std.proofs.Common.{◌*◌, arith}
use Rattle.tournaments.proofs.Trees.{at_leaf, at_root, inner_node, to_left, to_right}
use Rattle.tournaments.proofs.tournament.descend.Goals as goal
use Rattle.tournaments.proofs.tournament.descend.Goals.{then-nodes-node, else-nodes-node}

pub loop-level-init : goal.loop-level-init
loop-level-init c = at_root c.args.nodes.now c.args.depth c.args.n c.requires.root

pub overflow_mul-node : goal.overflow_mul-node
overflow_mul-node c = omega
    (arith, inner_node c.args.depth c.loop-level._level c.loop-level.node (omega arith) c.loop-level.invariant.high)

pub offset_bounds-nodes-node : goal.offset_bounds-nodes-node
offset_bounds-nodes-node c = omega
    (arith, inner_node c.args.depth c.loop-level._level c.loop-level.node (omega arith) c.loop-level.invariant.high)

pub bounds-nodes-node : goal.bounds-nodes-node
bounds-nodes-node c = omega
    (arith, inner_node c.args.depth c.loop-level._level c.loop-level.node (omega arith) c.loop-level.invariant.high)

pub loop-level-preserved : goal.loop-level-preserved
loop-level-preserved c = elim c.if-nodes-node.branch [
  | then-nodes-node w ↦
      rw w.node-is (to_right c.args.nodes.now c.args.depth c.args.n c.loop-level._level c.loop-level.node
      (c.loop-level.node * 2) c.requires.tree c.loop-level-test.true c.loop-level.invariant
      (omega arith) w.if-nodes-node.true)
  | else-nodes-node w ↦
      rw w.node-is (to_left c.args.nodes.now c.args.depth c.args.n c.loop-level._level c.loop-level.node
      (c.loop-level.node * 2) c.loop-level-test.true c.loop-level.invariant (omega arith) w.if-nodes-node.false)
]

pub returns : goal.returns
returns c = at_leaf c.args.nodes.now c.args.depth c.args.n c.loop-level._level c.loop-level.node
    (omega arith) c.loop-level.invariant
