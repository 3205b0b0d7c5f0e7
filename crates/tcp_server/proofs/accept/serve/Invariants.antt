use Rattle.tcp_server.proofs.accept.serve.Given as goal

abbrev pub ghosts-serve_at : goal.ghosts-serve_at
ghosts-serve_at g a = record { gate = a.gate }
