use Rattle.bb_elab.proofs.scopes.add_scope.Goals as goal

pub returns-clause-scopes : goal.returns-clause-scopes
returns-clause-scopes c = (c.new_scope-scope.result, c.in_ok-push.ensures.items, c.new_scope-scope.ensures.added)
