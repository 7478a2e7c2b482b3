use Rattle.std.proofs.Common.{◌≡◌, true}
use Rattle.flac_around.specs.Linking.{ghosts_of}
use Rattle.flac_around.proofs.chain_link.ChainLink.pass.Given as goal

abbrev pub invariant-rest : goal.invariant-rest
invariant-rest g l = record {
  names : ghosts_of.names l.self ≡ ghosts_of.names l.fn.self;
  calm : (ghosts_of.errors l.self ≡ ghosts_of.errors l.fn.self) × (ghosts_of.raised l.self ≡ ghosts_of.raised l.fn.self);
  known : ghosts_of.known l.fn.self ≡ true → ghosts_of.known l.self ≡ true;
}

abbrev pub decreases-rest : goal.decreases-rest
decreases-rest g l = g.S.Source.most l.self.source
