-- Shapes as plain trees.
pub data ShapeTree : Type 0 where
  str int bool names : ShapeTree
  pair : ShapeTree → ShapeTree → ShapeTree
  opt : ShapeTree → ShapeTree
  table : ShapeTree → ShapeTree
