mod NoFloats
