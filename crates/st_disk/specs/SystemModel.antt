-- What would have to be assumed of a real system.

-- The system's calls keep the contracts of a folder. No proof can say what a file gives or keeps, so the definition is
-- one that never holds: whatever is stated under it is claimed of no file.
pub SystemKeepsModel : Type 0
SystemKeepsModel = ⊥

-- for the clauses of the folder over real files alone: whoever else cited it could prove anything of them
pub nothing_claimed : {P : Type 0} → SystemKeepsModel → P
unfolding SystemKeepsModel
nothing_claimed keeps = absurd keeps
