-- Claims of a list, one after the other without a nest of brackets.
-- Assumes nothing.
infixr 5 ◌also◌
pub ◌also◌ : {A B : Type 0} → A → B → A × B
a also b = (a, b)
