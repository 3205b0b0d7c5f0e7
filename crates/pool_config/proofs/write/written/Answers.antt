use Rattle.std.proofs.Common.{codes, ◌∙◌}
use Rattle.pool_config.specs.Printed.{string_line, nodes_text, rest_text, sessions_text, users_text, password_text}
use Rattle.pool_config.proofs.Nodes.{four}
use Rattle.pool_config.proofs.write.written.Goals as goal

pub returns : goal.returns
returns c =
    let config = c.args.config.now in
    let nodes = rw c.as_slice.ensures at (rw c.in_ok-text.ensures.ok at c.in_ok-write_nodes.ensures) in
    let users = rw c.as_slice-2.ensures at c.in_ok-write_users.ensures in
    c.from_string.ensures
    ∙ four (string_line (codes "backend_clustering_mode") (codes "snapshot_isolation")) (nodes_text 0 config.nodes) (rest_text config) (sessions_text config.sessions)
    (users_text 0 config.users) (password_text config.backend_password) _ _ _ _ _ nodes c.in_ok-write_rest.ensures c.in_ok-write_sessions.ensures users c.in_ok-write_password.ensures
