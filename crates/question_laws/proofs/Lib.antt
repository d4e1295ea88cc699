mod AskedProofs
