-- The index registers.
use Rattle.stm8.specs.declared.Register.{Register}
use Rattle.stm8.specs.declared.Register.TheVariants.{X, Y}

-- the other index register: what LDW X,Y and LDW Y,X copy
abbrev pub other_of : Register → Register
other_of X = Y
other_of Y = X
